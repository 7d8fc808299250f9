use Rattle.std.specs.Option.{option_map}
use Rattle.xa_lines.specs.Script.{lines_of}
use Rattle.xa_record.specs.Shrinking.{IsSmallerIfSome}
use Rattle.xa_record.proofs.shrinking.smallest_by.Given as goal

abbrev pub invariant-loop-try : goal.invariant-loop-try
invariant-loop-try l =
    IsSmallerIfSome l.base l.allowances l.asked (lines_of l.text) (option_map (λ written. written.items) l.smallest)
