use Rattle.std.proofs.Common.{length}
use Rattle.xa_judge.{specs.Foreseen.hints_of, proofs.ForeseenGrowth.SeesBothFor}
use Rattle.xa_judge.proofs.foreseeing.see_all.Given as goal

abbrev pub invariant-loop-one : goal.invariant-loop-one
invariant-loop-one l =
    SeesBothFor (hints_of l.events l.places) l.event l.fn.known.items l.known.items l.list.items

abbrev pub decreases-loop-one : goal.decreases-loop-one
decreases-loop-one l = length l.known.items
