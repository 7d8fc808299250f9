use Rattle.std.proofs.Common.{ℕ}
use Rattle.xa_judge.specs.{Explained.IsSession, Found.config_of, Persistent.{IsIn, AreApartFrom}}
use Rattle.xa_judge.proofs.persistent.persistent_on.Given as goal

-- the session is in the set, and who is outside of it is apart from those that are done
abbrev pub invariant-loop : goal.invariant-loop
invariant-loop l = record {
  has : IsIn l.all l.fn.session;
  done : (inside : ℕ) → IsSession inside → IsIn l.done inside → AreApartFrom (config_of l.one) l.all inside 17;
}
