use Rattle.xa_judge.{specs.Near.named_in, proofs.KeyParts.CutSoFar}
use Rattle.xa_judge.proofs.parts.sides_of.Given as goal

-- the events before the place are cut
abbrev pub invariant-loop-event : goal.invariant-loop-event
invariant-loop-event l =
    CutSoFar (named_in l.keys) l.turns.items l.sides.items l.events l.event-index
