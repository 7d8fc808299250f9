-- How a session answers that fails from a certain call on.
use Rattle.std.specs.Prelude.{◌≡◌, ◌≢◌, ◌+◌, ◌||◌, ℕ, zero, suc, Bool, true, false, Option, Some, None, Result, Err}
use Rattle.xa_session.specs.{View.SessionView, declared.{answer.Answer.Answer, fault.Fault.Fault}}
use Rattle.xa_xid.specs.declared.statement.Statement.{Statement}
use Rattle.xa_coordinator.specs.declared.fused.Fused.{Fused}

-- if a call is left, the session within gave the answer, and one call less is left; else the answer is NoMemory, and
-- the session within got no statement
pub record AnswersAsWithin {S : Type 0} (gives : S → Statement → Result Answer Fault → S → Type 0) (old : Fused S)
    (statement : Statement)
    (result : Result Answer Fault) (new : Fused S) : Type 0 where
  pub passed : old.left ≢ 0 → (new.left + 1 ≡ old.left) × gives old.inner statement result new.inner
  pub spent : old.left ≡ 0 → (result ≡ Err Fault.NoMemory) × (new.left ≡ 0) × (new.inner ≡ old.inner)

-- no more statements are taken
abbrev pub is_spent : Option ℕ → Bool
is_spent None = false
is_spent (Some zero) = true
is_spent (Some (suc left)) = false

-- memory may have been refused for a statement, or no more are taken
abbrev pub may_starve : SessionView → Bool
may_starve session = is_spent session.left || session.starved

-- the session within as contracts see it, but it takes as many more statements as calls are left; memory may have been
-- refused also if the session within takes no more statements itself
abbrev pub limited : {S : Type 0} → (S → SessionView) → Fused S → SessionView
limited view fused = record (view fused.inner) { left = Some fused.left; starved = may_starve (view fused.inner) }
