use Rattle.std.proofs.Common.{◌≡◌, ◌++◌}
use Rattle.xa_audit.{specs.Written.{each_json, global_json}, proofs.Texts.lead}
use Rattle.xa_audit.proofs.json_text.push_globals.Given as goal

abbrev pub invariant-loop-name : goal.invariant-loop-name
invariant-loop-name l =
    l.fn.text.items ++ each_json global_json l.globals.entries ≡ (l.text.items ++ lead l.first l.name-iterator)
    ++ each_json global_json l.name-iterator
