use Rattle.std.proofs.Common.{◌≡◌}
use Rattle.chain_log.specs.RingPass.{known_of}
use Rattle.xa_store.specs.Gathered.{AddsNothing}
use Rattle.xa_races.proofs.racer.leave_checkpoint.Given as goal

abbrev pub invariant-loop : goal.invariant-loop
invariant-loop l =
    (l.session.store.value ≡ l.fn.session.store.value) × AddsNothing (known_of l.fn.session.member.pass)
    (known_of l.session.member.pass)
