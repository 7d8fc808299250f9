use Rattle.std.proofs.{Common.{inl, inr, arith}, lemmas.Bool.cases_lt}
use Rattle.xa_coordinator.proofs.Marks.{beyond}
use Rattle.xa_coordinator.proofs.participants.Participants.next_from.Goals as goal

pub returns-clause-none : goal.returns-clause-none
returns-clause-none c = λ other from.
    elim (cases_lt other c.loop-store.store) [
      | inl below ↦ c.loop-store.invariant other from below
      | inr beyond_it ↦ beyond c.args.self.now other (omega (arith, c.loop-store-test.false)) c.args.self.now.sixteen
    ]
