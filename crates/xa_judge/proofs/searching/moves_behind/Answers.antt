use Rattle.xa_judge.{specs.Told.no_pass, proofs.Told.{passes_on, pass_of}}
use Rattle.xa_judge.proofs.searching.moves_behind.Goals as goal

pub loop-width-init : goal.loop-width-init
loop-width-init g c = no_pass

pub loop-width-preserved : goal.loop-width-preserved
loop-width-preserved g c =
    let none = rw c.in-None.is at c.in_ok-moves_within.ensures in passes_on c.loop-width.invariant (pass_of none.1)
