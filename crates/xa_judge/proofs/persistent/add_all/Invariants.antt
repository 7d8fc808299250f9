use Rattle.xa_judge.specs.{Found.config_of, Persistent.{IsWithin, AreApartFrom}}
use Rattle.xa_judge.proofs.persistent.add_all.Given as goal

-- the set has grown, and sessions of smaller numbers that aren't in it are apart
abbrev pub invariant-loop-number : goal.invariant-loop-number
invariant-loop-number l = record {
  grows : IsWithin l.initial.all l.all;
  apart : AreApartFrom (config_of l.one) l.all l.session l.number;
}
