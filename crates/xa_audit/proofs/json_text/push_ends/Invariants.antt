use Rattle.std.proofs.Common.{◌≡◌, ◌++◌, drop}
use Rattle.xa_audit.{specs.Written.{each_json, end_json}, proofs.Texts.lead}
use Rattle.xa_audit.proofs.json_text.push_ends.Given as goal

abbrev pub invariant-loop-end : goal.invariant-loop-end
invariant-loop-end l =
    l.fn.text.items ++ each_json end_json l.ends
    ≡ (l.text.items ++ lead l.first (drop l.end-index l.ends)) ++ each_json end_json (drop l.end-index l.ends)
