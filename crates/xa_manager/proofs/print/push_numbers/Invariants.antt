use Rattle.std.proofs.Common.{◌≡◌, ◌++◌, take}
use Rattle.xa_manager.specs.Texts.{numbers_text}
use Rattle.xa_manager.proofs.print.push_numbers.Given as goal

abbrev pub invariant-loop-place : goal.invariant-loop-place
invariant-loop-place l = l.text.items ≡ l.initial.text.items ++ numbers_text l.wanted 1 (take l.place l.decisions)
