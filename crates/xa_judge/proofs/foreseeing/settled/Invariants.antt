use Rattle.xa_judge.specs.{Found.config_of, Foreseen.{hints_of, ReplacesFor}}
use Rattle.xa_judge.proofs.foreseeing.settled.Given as goal

-- it is as good as the first one
abbrev pub invariant-loop-number : goal.invariant-loop-number
invariant-loop-number l = ReplacesFor (hints_of l.events l.places) (config_of l.initial.here) (config_of l.here)
