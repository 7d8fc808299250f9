use Rattle.std.proofs.Common.{◌≡◌, ◌++◌}
use Rattle.xa_audit.specs.Written.{each_text, global_text}
use Rattle.xa_audit.proofs.lines_text.push_globals.Given as goal

abbrev pub invariant-loop-name : goal.invariant-loop-name
invariant-loop-name l =
    l.fn.text.items ++ each_text global_text l.globals.entries ≡ l.text.items ++ each_text global_text l.name-iterator
