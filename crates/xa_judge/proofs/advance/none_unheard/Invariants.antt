use Rattle.std.{proofs.Common.{◌≡◌, ℕ, ◌<◌, Some, false}, specs.Prelude.slice_get}
use Rattle.xa_judge.specs.{declared.configuration.Configuration.Configuration, Found.config_of, Late.has_unheard}
use Rattle.xa_judge.proofs.advance.none_unheard.Given as goal

-- there is none before the place
abbrev pub invariant-loop-one : goal.invariant-loop-one
invariant-loop-one l =
    (place : ℕ) (one : Configuration) → place < l.one-index → slice_get l.known place ≡ Some one
    → has_unheard (config_of one) l.session ≡ false
