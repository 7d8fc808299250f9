use Rattle.std.{proofs.Common.{◌≡◌, take}, specs.Prelude.fold}
use Rattle.xa_orders.specs.Marks.{with_text}
use Rattle.xa_orders.proofs.answers.with_texts.Given as goal

-- of the texts before the place
abbrev pub invariant-loop-text : goal.invariant-loop-text
invariant-loop-text l = l.longer ≡ fold with_text l.fn.mark (take l.text-index l.texts)
