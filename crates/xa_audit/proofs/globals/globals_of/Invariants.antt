use Rattle.std.{proofs.Common.{◌≡◌, take}, specs.{Prelude.filter, BTreeMap.get}}
use Rattle.xa_audit.specs.{declared.global.GlobalName.GlobalName, Globals.{global_cmp, is_of, if_any}}
use Rattle.xa_audit.proofs.globals.globals_of.Given as goal

abbrev pub invariant-loop-branch : goal.invariant-loop-branch
invariant-loop-branch l =
    (name : GlobalName) → get global_cmp l.globals name ≡ if_any (filter (is_of name) (take l.branch-index l.branches))
