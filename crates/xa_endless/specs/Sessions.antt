-- A session as a coordinator uses it.
use Rattle.std.specs.Prelude.{true, false, [], ◌⊎◌, None, Result, IfOk, IfErr, OnErr}
use Rattle.xa_xid.specs.declared.statement.Statement.{Statement}
use Rattle.chain_log.specs.RingPass.{log_of, known_of}
use Rattle.xa_server.{specs.{Locks.LockLaw, State.no_state}, proofs.Keeping.law_no_state}
use Rattle.xa_session.specs.{View.SessionView, Tries.{TriesOnce, LooksLast}, declared.answer.Answer.Answer}
use Rattle.xa_session.specs.declared.fault.Fault.{Fault, TheVariants.{Overtaken, Full, NoMemory, Busy}}
use Rattle.xa_endless.specs.{Answers.{IsCaused, HasAnswered}, Stays.Stays, declared.fault.EndlessFault.EndlessFault}
use Rattle.xa_endless.specs.declared.session.EndlessSession.{EndlessSession}

-- the session as contracts see one: its history begins with the store's first entry. It has no turn, no other session
-- is in it, the statements that it takes aren't limited, and memory may be refused for any of them
abbrev pub view_of : EndlessSession → SessionView
view_of session =
    record {
      identity = log_of session.member.pass;
      turns = false;
      base = no_state;
      known = known_of
          session.member.pass;
      beside = [];
      left = None;
      starved = true;
    }

-- the state that a session's view begins with keeps the lock law: it is the empty one
pub keeps-law : (session : EndlessSession) → LockLaw (view_of session).base
keeps-law session = law_no_state

-- the only fault of `execute` is NoMemory, for a cause that `IsCaused` names: the list of an XA RECOVER, a replica that
-- hasn't replayed all that is seen, or more than 2^59 entries. The store is never full and has no turn
abbrev pub MayFail : Statement → Fault → EndlessSession → Type 0
MayFail statement (Overtaken front) session = ⊥
MayFail statement Full session = ⊥
MayFail statement NoMemory session =
    IsCaused session.store.value.log statement EndlessFault.NoMemory session.member.replica session.member.pass
MayFail statement Busy session = ⊥

-- the faults of `attempt`: a single try may be Overtaken; and it is NoMemory as for `execute`, or if entries that the
-- replica needs may be overwritten
abbrev pub MayFailOnce : Statement → Fault → EndlessSession → Type 0
MayFailOnce statement (Overtaken front) session = Unit {0}
MayFailOnce statement Full session = ⊥
MayFailOnce statement NoMemory session = MayFail statement NoMemory session
    ⊎ IsCaused session.store.value.log statement EndlessFault.Behind session.member.replica session.member.pass
MayFailOnce statement Busy session = ⊥

-- the session is of its store, and the statement is answered or not for a cause; it has looked, and has tried to append
-- at most once, at a fault other than Overtaken not at all
pub record SpeaksOnce (statement : Statement) (result : Result Answer Fault) (old new : EndlessSession) : Type 0 where
  pub stays : Stays old new
  pub answered : IfOk result (λ answer. HasAnswered statement answer new.member.replica (known_of old.member.pass)
      (known_of new.member.pass))
  pub cause : IfErr result (λ fault. MayFailOnce statement fault new)
  pub once : TriesOnce result (known_of old.member.pass) (known_of new.member.pass)

-- the session is of its store, and after any number of tries the statement is answered, or not for a cause; after a
-- fault there were more looks than tries, so the last look led to no try
pub record SpeaksOn (statement : Statement) (result : Result Answer Fault) (old new : EndlessSession) : Type 0 where
  pub stays : Stays old new
  pub answered : IfOk result (λ answer. HasAnswered statement answer new.member.replica (known_of old.member.pass)
      (known_of new.member.pass))
  pub cause : IfErr result (λ fault. MayFail statement fault new)
  pub tried : OnErr result (LooksLast (known_of old.member.pass) (known_of new.member.pass))
