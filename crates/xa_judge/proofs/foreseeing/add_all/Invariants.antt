use Rattle.std.{proofs.Common.{◌≡◌, Some}, specs.Prelude.slice_get}
use Rattle.xa_judge.specs.{declared.configuration.Configuration.Configuration, Found.config_of}
use Rattle.xa_judge.specs.{Foreseen.{hints_of, ExtendsBy}, Persistent.IsExpandedFor}
use Rattle.xa_judge.proofs.foreseeing.add_all.Given as goal

-- the list has grown, and has what sessions of smaller numbers lead to
abbrev pub invariant-loop-number : goal.invariant-loop-number
invariant-loop-number l = record {
  grows : ExtendsBy l.initial.known.items l.known.items;
  all : (one : Configuration) → slice_get l.initial.known.items l.place ≡ Some one
      → IsExpandedFor (hints_of l.events l.places) l.all l.number (config_of one) l.known.items;
}
