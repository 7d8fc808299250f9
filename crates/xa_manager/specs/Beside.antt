-- A transaction manager whose sessions hold the other clients': what a call does to it.
--     within, others_of        the coordinator's sessions without their limits, and the other clients'
use Rattle.std.specs.Prelude.{◌≡◌, ◌⊎◌, ◌<◌, ℕ, false, List, [], All, length, map, Result}
use Rattle.xa_xid.specs.declared.statement.Statement.{Statement}
use Rattle.xa_server.specs.declared.reply.Reply.{Reply}
use Rattle.xa_session.specs.{declared.fault.Fault.Fault, View.SessionView}
use Rattle.xa_coordinator.specs.{Beside.IsLeftAlone, Fusing.limited, Stores.{AtStore, EachStore, ChangesAt}}
use Rattle.xa_coordinator.specs.declared.fused.Fused.{Fused}
use Rattle.xa_lines.specs.{Printed.converts, Received.Received}
use Rattle.xa_manager.specs.declared.{call.Call.Call, listing.Listing.Listing, response.Response.Response}
use Rattle.xa_manager.specs.{declared.response.Response.TheVariants.{Replied, Shown}, Carried.{WholeManager, Carries}}
use Rattle.xa_manager.specs.{Limits.StartsAnew, Said.{IsGiven, IsListed}, Whole.{IsPair, IsRefused}}
use Rattle.xa_manager.specs.{Served.{call_said, refused_text, has_few_words}, Texts.answer_text}

-- the session within one that has a limit, as contracts see it: without the limit
abbrev pub within : {S : Type 0} → (S → SessionView) → Fused S → SessionView
within {S} view session = view session.inner

-- the other clients' sessions, which these hold
abbrev pub others_of : {S : Type 0} → (S → SessionView) → List (Fused S) → List SessionView
others_of {S} other sessions = map (within other) sessions

-- none of the coordinator's sessions got a statement, and each passes on as many calls as before
pub record LeavesAlone {S : Type 0} (view : S → SessionView) (old new : List (Fused S)) : Type 0 where
  pub alone : EachStore (within view) (λ store. IsLeftAlone) old new
  pub left : map (λ (s : Fused S). s.left) new ≡ map (λ (s : Fused S). s.left) old

-- the other client's session in a store was given a statement, and this is its answer; no other session got a
-- statement
pub record HasRepliedBeside {S T : Type 0} (view other : S → SessionView) (store : ℕ) (statement : Statement)
    (old : WholeManager (Fused S) T)
    (response : Response) (new : WholeManager (Fused S) T) : Type 0 where
  pub answer : Result Reply Fault
  pub known : store < old.stores
  pub told : response ≡ Replied (converts statement) answer
  pub replies : AtStore (within other) store (IsGiven statement answer) old.sessions new.sessions
  pub others : ChangesAt store old.sessions new.sessions
  pub alone : LeavesAlone view old.sessions new.sessions
  pub stands : new ≡ record old { sessions = new.sessions }

-- the other client's session in each store was given XA RECOVER CONVERT XID, and this is what each answered
pub record IsShownBeside {S T : Type 0} (view other : S → SessionView) (old : WholeManager (Fused S) T)
    (response : Response) (new : WholeManager (Fused S) T)
    : Type 0 where
  pub listing : Listing
  pub count : length listing.answers.items ≡ old.stores
  pub told : response ≡ Shown listing
  pub each : EachStore (within other) (IsListed listing.answers.items) old.sessions new.sessions
  pub alone : LeavesAlone view old.sessions new.sessions
  pub stands : new ≡ record old { sessions = new.sessions }

-- a call was carried out, by the call; only AT and SHOW give a statement to another client's session. `other` sees
-- those sessions, which the coordinator's hold; `nobody` sees the manager's own list of other clients, which stays as
-- it is
abbrev pub CarriesBeside : {S T : Type 0} → (S → SessionView) → (S → SessionView) → (T → SessionView)
    → WholeManager (Fused S) T → Call → Response
    → WholeManager (Fused S) T → Type 0
CarriesBeside view other nobody old (Call.At store statement) response new =
    HasRepliedBeside view other store statement old response new
CarriesBeside view other nobody old Call.Show response new = IsShownBeside view other old response new
CarriesBeside view other nobody old call response new =
    Carries (limited view) nobody old call response new × (others_of other new.sessions ≡ others_of other old.sessions)

-- a call was refused as the table (`refusal_of`) says, or was carried out
abbrev pub PerformsBeside : {S T : Type 0} → (S → SessionView) → (S → SessionView) → (T → SessionView)
    → WholeManager (Fused S) T → Call → Response
    → WholeManager (Fused S) T → Type 0
PerformsBeside view other nobody old call response new =
    IsRefused old call response new ⊎ CarriesBeside view other nobody old call response new

-- no transaction was begun, nothing is open, each of the coordinator's sessions passes on 2^64 - 1 calls, and the two
-- sessions of a store are a pair
pub record BeginsBeside {S T : Type 0} (view other : S → SessionView)
    (manager : WholeManager (Fused S) T) : Type 0 where
  pub decisions : manager.decisions ≡ []
  pub stages : manager.stages ≡ []
  pub anew : StartsAnew manager.branches manager.sessions
  pub pairs : All (λ session. IsPair (view session.inner) (other session.inner)) manager.sessions

-- memory was refused for a call, and nothing changed; or the call was refused by the table or carried out, and memory
-- was refused for its answer, which isn't of few words (`has_few_words`). A blank line and a comment are never answered
-- so
pub record IsRefusedBeside {S T : Type 0} (view other : S → SessionView) (nobody : T → SessionView)
    (old : WholeManager (Fused S) T) (call : Call)
    (text : List ℕ) (new : WholeManager (Fused S) T) : Type 0 where
  pub speaks : call ≡ Call.Silent → ⊥
  pub told : text ≡ refused_text
  pub stands : (new ≡ old) ⊎ ((response : Response) × (has_few_words response ≡ false)
      × PerformsBeside view other nobody old call response new)

-- the line's call was refused or carried out, and its response is written; or memory was refused, and that is written
abbrev pub IsBesideAnswer : {S T : Type 0} → (S → SessionView) → (S → SessionView) → (T → SessionView)
    → WholeManager (Fused S) T → Received → List ℕ
    → WholeManager (Fused S) T → Type 0
IsBesideAnswer view other nobody old line text new =
    ((response : Response) × PerformsBeside view other nobody old (call_said line) response new
    × (text ≡ answer_text new.decisions response))
    ⊎ IsRefusedBeside view other nobody old (call_said line) text new
