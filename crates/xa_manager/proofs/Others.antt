-- What other clients add, where no call has them end a branch of the coordinator's.
use Rattle.std.proofs.Common.{◌≡◌, ℕ, true, List, ap, sym, ◌∙◌, subst, inl, inr, Some, Result, Ok, Err, append-nil}
use Rattle.std.proofs.{Common.arith, lemmas.{Bool.Decides.eqb_tells, Option.same_Some}}
use Rattle.std.specs.Prelude.{slice_get, Contains, All}
use Rattle.decision_log.specs.declared.known.Known.{Known}
use Rattle.xa_words.specs.Entry.{Entry}
use Rattle.xa_xid.specs.declared.statement.Statement.{Statement, TheVariants.Recover as RecoverStatement}
use Rattle.xa_server.specs.declared.reply.Reply.{Reply}
use Rattle.xa_session.specs.{Answer.entry_of, View.SessionView, declared.fault.Fault.Fault}
use Rattle.xa_session.proofs.Answering.{fails_unanswered}
use Rattle.xa_coordinator.specs.Lasting.{own_view, other_alone}
use Rattle.xa_manager.specs.{Beside.{within, others_of, CarriesBeside, HasRepliedBeside, IsShownBeside}, Said.IsGiven}
use Rattle.xa_manager.specs.{Whole.IsPair, declared.{call.Call.Call, response.Response.Response}}
use Rattle.xa_manager.{specs.Atomic.{EndsNone, LeavesBranches}, proofs.Holding.{Session, Never, GrowsAs, grows_each}}
use Rattle.xa_manager.specs.Runs.{Managing, IsAnswered, CarriesOut, none_yet, one_more, IsFresh}
use Rattle.xa_manager.proofs.Added.{AddsOnly, added_or_there, answered, adds_same}
use Rattle.xa_manager.proofs.{Recovering.{one_of, nothing_in, front_all, last_all}, Said.{as_long, same_seen}}

-- the other client's session added the statement
abbrev pub OtherAdded : Session → Statement → Type 0
OtherAdded session statement = Contains (other_alone session.inner).known.mine (entry_of 2 statement)

-- no statement that other clients added is an XA COMMIT or XA ROLLBACK of a branch of the coordinator's naming
abbrev pub OthersLeave : Managing → Type 0
OthersLeave manager =
    (store : ℕ) (session : Session) (statement : Statement) → slice_get manager.sessions store ≡ Some session
    → OtherAdded session statement
    → EndsNone store statement

-- a statement of the kind that a session was given was added or not
given_adds : (kind : Statement → Type 0) (statement : Statement) (answer : Result Reply Fault) (old new : SessionView)
    → kind statement
    → IsGiven statement answer old new → AddsOnly kind old new
given_adds kind statement (Ok reply) old new may is =
    answered kind statement (record { place = is.replies.0; reply = reply }) old new may is.replies.1
given_adds kind statement (Err fault) old new may is = grind (arith, append-nil, fails_unanswered)

-- if what other clients added before ends no branch of the coordinator's, and what they added since ends none, then
-- all that they added ends none
still_leave : (kind : ℕ → Statement → Type 0) (old new : Managing)
    → ((store : ℕ) (statement : Statement) → kind store statement → EndsNone store statement)
    → GrowsAs (within other_alone) kind old.sessions new.sessions → OthersLeave old → OthersLeave new
still_leave kind old new fresh grows leave store session statement is added =
    let grew = grows store session is in
    elim (added_or_there (kind store) (other_alone grew.before.inner) (other_alone session.inner)
    (entry_of 2 statement) grew.adds added) [
      | inl before ↦ leave store grew.before statement grew.there before
      | inr now ↦ fresh store statement now
    ]

-- other clients that stay as they were have still ended no branch of the coordinator's
same_leave : (old new : Managing)
    → others_of other_alone new.sessions ≡ others_of other_alone old.sessions → OthersLeave old → OthersLeave new
same_leave old new same =
    let other : Session → SessionView = within other_alone in
    still_leave Never old new (λ store statement never. absurd never)
    (grows_each other Never old.sessions new.sessions (as_long other old.sessions new.sessions same)
    (λ store before after was is.
    adds_same (Never store) (other before) (other after)
    (same_seen other old.sessions new.sessions store before after same was is)))

-- after AT with a statement that ends no branch of the coordinator's, other clients still have ended none
replied_leave : (store : ℕ) (statement : Statement) (old new : Managing) (response : Response)
    → EndsNone store statement
    → HasRepliedBeside own_view other_alone store statement old response new → OthersLeave old → OthersLeave new
replied_leave store statement old new response none is =
    still_leave EndsNone old new (λ there it leaves. leaves)
    (grows_each (within other_alone) EndsNone old.sessions new.sessions is.others.count
    (λ there before after is_before is_after. elim (eqb_tells there store) [
      | inl (_, here) ↦
          given_adds (EndsNone there) statement is.answer (other_alone before.inner) (other_alone after.inner)
          (subst (λ n. EndsNone n statement) (sym here) none)
          (is.replies before after (subst (λ n. slice_get old.sessions n ≡ Some before) here is_before)
          (subst (λ n. slice_get new.sessions n ≡ Some after) here is_after))
      | inr (_, apart) ↦
          adds_same (EndsNone there) (other_alone before.inner) (other_alone after.inner)
          (ap (λ (s : Session). other_alone s.inner) (same_Some after before
          (sym is_after ∙ is.others.others there apart ∙ is_before)))
    ]))

-- after SHOW, which gives each other client an XA RECOVER, they still have ended no branch of the coordinator's
shown_leave : (old new : Managing) (response : Response) → IsShownBeside own_view other_alone old response new
    → OthersLeave old → OthersLeave new
shown_leave old new response is =
    still_leave EndsNone old new (λ there it leaves. leaves)
    (grows_each (within other_alone) EndsNone old.sessions new.sessions
    (as_long (λ (s : Session). s.left) old.sessions new.sessions is.alone.left)
    (λ there before after is_before is_after.
    let listed = is.each there before after is_before is_after in
    given_adds (EndsNone there) (RecoverStatement true) listed.answer (other_alone before.inner)
    (other_alone after.inner) tt listed.given))

-- after a call that is carried out and has no other client end a branch of the coordinator's, they still have ended
-- none
carried_leave : (old new : Managing) (call : Call) (response : Response) → LeavesBranches call
    → CarriesBeside own_view other_alone own_view old call response new
    → OthersLeave old → OthersLeave new
carried_leave old new (Call.At store statement) response leaves is = replied_leave store statement old new response
    leaves is
carried_leave old new Call.Show response leaves is = shown_leave old new response is
carried_leave old new call response leaves is = same_leave old new is.1

-- after a call that has no other client end a branch of the coordinator's, refused or carried out, they still have
-- ended none
pub answered_leave : (old new : Managing) (call : Call) (response : Response) → LeavesBranches call
    → IsAnswered old call response new → OthersLeave old
    → OthersLeave new
answered_leave old new call response leaves is leave = grind (arith, carried_leave)

-- calls that leave the coordinator's branches to it, one after another, have no other client end one
pub calls_leave : (old new : Managing) (calls : List Call) (responses : List Response)
    → CarriesOut old calls responses new → All LeavesBranches calls
    → OthersLeave old → OthersLeave new
calls_leave old new calls responses none_yet leaves leave = leave
calls_leave old new calls responses (one_more cs rs mid so_far call response n answered) leaves leave =
    answered_leave mid n call response (last_all LeavesBranches cs call leaves) answered
    (calls_leave old mid cs rs so_far (front_all LeavesBranches cs call leaves) leave)

-- at the beginning no other client has added anything
pub fresh_leave : (stores : ℕ) (first : Managing) → IsFresh stores first → OthersLeave first
fresh_leave stores first fresh store session statement is added =
    let pair = one_of (λ (s : Session). IsPair (own_view s.inner)
    (other_alone s.inner)) first.sessions store session fresh.begins.pairs is in
    absurd (nothing_in (entry_of 2 statement)
    (subst (λ (list : List Entry). Contains list (entry_of 2 statement))
    (ap (λ (k : Known). k.mine) pair.second_known) added))
