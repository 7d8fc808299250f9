use Rattle.std.{proofs.Common.{◌≡◌, Some, false}, specs.Prelude.slice_get}
use Rattle.xa_judge.specs.{declared.configuration.Configuration.Configuration, Late.is_over}
use Rattle.xa_judge.specs.Found.{config_of, Grows, AddsOnly, IsExpandedBelow}
use Rattle.xa_judge.proofs.known.add_all.Given as goal

-- the list has grown, and has what sessions of smaller numbers lead to, and no more
abbrev pub invariant-loop-number : goal.invariant-loop-number
invariant-loop-number l = record {
  grows : Grows l.initial.known.items l.known.items;
  all : (one : Configuration) → slice_get l.initial.known.items l.place ≡ Some one
      → IsExpandedBelow l.number one l.returning l.known.items;
  only : (one : Configuration) → slice_get l.initial.known.items l.place ≡ Some one
      → is_over l.returning (config_of one) ≡ false
      → AddsOnly l.returning (config_of one) l.initial.known.items l.known.items;
}
