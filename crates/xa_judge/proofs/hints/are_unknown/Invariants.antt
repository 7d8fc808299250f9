use Rattle.std.{proofs.Common.{◌≡◌, ◌<◌, ℕ, None, Some}, specs.Prelude.slice_get}
use Rattle.xa_judge.specs.{declared.open_call.OpenCall.OpenCall, Foreseen.hint_in}
use Rattle.xa_judge.proofs.hints.are_unknown.Given as goal

-- those of lower numbers
abbrev pub invariant-loop-number : goal.invariant-loop-number
invariant-loop-number l = (at : ℕ) (entry : OpenCall) → at < l.number → slice_get l.places at ≡ Some entry
    → (hint_in l.events entry).seen ≡ None
