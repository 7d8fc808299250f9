-- What sessions answered: their replies without places in the history, and the list of what each other client
-- answered.
use Rattle.std.proofs.Common.{◌≡◌, ◌∙◌, ◌+◌, ℕ, zero, suc, true, List, [], ◌∷◌, ◌++◌, length, take, get_or, map, ap}
use Rattle.std.proofs.{Common.{refl, sym, subst, Result, Some, arith}, lemmas.List.length-map}
use Rattle.std.proofs.{lemmas.Option.{slice_get-map, same_Some}, Math.Seq.take-append_seam}
use Rattle.std.specs.{Prelude.{IfOk, IfErr, slice_get, slice_set}, Option.option_map}
use Rattle.xa_xid.specs.declared.statement.Statement.{Statement, TheVariants.Recover}
use Rattle.xa_server.specs.declared.reply.Reply.{Reply}
use Rattle.xa_coordinator.specs.{declared.{decisions.Decision.Decision, fused.Fused.Fused}, Agreement.Agrees}
use Rattle.xa_coordinator.specs.Stores.{EachStore}
use Rattle.xa_coordinator.proofs.{Walk.{Reached, reached_next, reached_weaker}, Keeping.{at_place, changes_at}}
use Rattle.xa_session.specs.{declared.{answer.Answer.Answer, fault.Fault.Fault}, Answer.{IsAnswered, Fails}}
use Rattle.xa_session.specs.View.{SessionView, StaysOfLog}
use Rattle.xa_manager.specs.{declared.{call.Call.Call, response.Response.Response}, Whole.Performs}
use Rattle.xa_manager.specs.{Carried.WholeManager, Said.{RepliesAs, IsGiven, IsListed, reply_of}}

-- lists that are the same as a function sees them are as long
pub as_long : {A B : Type 0} (f : A → B) (old new : List A) → map f new ≡ map f old → length new ≡ length old
as_long f old new same = sym (length-map new f) ∙ ap length same ∙ length-map old f

-- sessions that are the same within are as many
pub as_many : {S : Type 0} (old new : List (Fused S)) → map (λ (session : Fused S). session.inner) new
    ≡ map (λ (session : Fused S). session.inner) old
    → length new ≡ length old
as_many {S} old new same = as_long (λ (session : Fused S). session.inner) old new same

-- lists that are the same as a function sees them are so at each place
pub same_seen : {A B : Type 0} (f : A → B) (old new : List A) (place : ℕ) (before after : A) → map f new ≡ map f old
    → slice_get old place ≡ Some before → slice_get new place ≡ Some after → f after ≡ f before
same_seen f old new place before after same was is =
    same_Some _ _
    (sym (ap (option_map f) is) ∙ sym (slice_get-map f new place) ∙ ap (λ list. slice_get list place) same
    ∙ slice_get-map f old place
    ∙ ap (option_map f) was)

-- what holds of a session's answer or fault holds of the reply alone, without its place in the history
pub replied_as : (statement : Statement) (answered : Result Answer Fault) (old new : SessionView)
    → IfOk answered (λ answer. IsAnswered old.base statement answer old.known new.known)
    → IfErr answered (λ fault. Fails old.turns old.identity.capacity old.base statement fault old.known new.known)
    → RepliesAs statement (reply_of answered) old new
replied_as statement answered old new answers fails = grind (arith)

-- sessions to which only statements were added that agree with decisions are each of the log that they were of
pub agreed_logs : {S : Type 0} (view : S → SessionView) (decisions : List Decision) (name : List ℕ) (old new : List S)
    → EachStore view (Agrees decisions name) old new → EachStore view (λ store. StaysOfLog) old new
agreed_logs view decisions name old new agrees =
    λ store before after is_before is_after. (agrees store before after is_before is_after).adds.log

-- putting an element behind a list leaves what stood in it
pub get_before : {A : Type 0} (xs : List A) (y : A) (place : ℕ) (x : A) → slice_get xs place ≡ Some x
    → slice_get (xs ++ y ∷ []) place ≡ Some x
get_before [] y place x is = absurd (cc)
get_before (z ∷ zs) y zero x is = is
get_before (z ∷ zs) y (suc place) x is = get_before zs y place x is

-- at the place behind a list stands the element that is put there
pub get_last : {A : Type 0} (xs : List A) (y : A) (place : ℕ) → length xs ≡ place
    → slice_get (xs ++ y ∷ []) place ≡ Some y
get_last [] y zero is = refl
get_last [] y (suc place) is = absurd (cc)
get_last (z ∷ zs) y zero is = absurd (omega arith)
get_last (z ∷ zs) y (suc place) is = get_last zs y place (omega arith)

-- the loop over stores: the client of one more has listed what is prepared there
pub listed_more : {T : Type 0} (view : T → SessionView) (answers : List (Result Reply Fault))
    (answer : Result Reply Fault) (place : ℕ) (old now : List T)
    (before after : T)
    → length answers ≡ place → Reached view (IsListed answers) place old now → before ≡ get_or now place before
    → IsGiven (Recover true) answer (view (get_or now place before)) (view after)
    → Reached view (IsListed (answers ++ answer ∷ [])) (place + 1) old (slice_set now place after)
listed_more {T} view answers answer place old now before after count so_far was given =
    let more = answers ++ answer ∷ [] in
    let here : IsGiven (Recover true) answer (view before) (view after) =
    subst (λ (t : T). IsGiven (Recover true) answer (view t) (view after)) (sym was) given in
    reached_next view (IsListed more) place old now (slice_set now place after)
    (reached_weaker view (IsListed answers) (IsListed more) place old now
    (λ store less a b is. record
    { answer = is.answer; there = get_before answers answer store is.answer is.there; given = is.given }) so_far)
    (changes_at now place after)
    (at_place view [] (IsListed more place) now place before after was
    (record { answer = answer; there = get_last answers answer place count; given = here }))

-- if all of a list was lent, and a fact holds of each session that was lent and came back, it holds of each of the
-- list, which then has what came back
pub each_lent : {T : Type 0} (view : T → SessionView) (fact : ℕ → SessionView → SessionView → Type 0)
    (items was now rest : List T) (count : ℕ)
    → was ≡ items → count ≡ length items → length now ≡ length was → EachStore view fact was now
    → EachStore view fact items (take count (now ++ rest))
each_lent {T} view fact items was now rest count all whole same each = grind (arith, take-append_seam)

-- what was refused or carried out for a call was so for an equal one, as the call that a line says
pub performed : {S T : Type 0} (view : S → SessionView) (view' : T → SessionView) (old new : WholeManager (Fused S) T)
    (call said : Call) (response : Response)
    → call ≡ said → Performs view view' old call response new → Performs view view' old said response new
performed view view' old new call said response same performs = grind arith
