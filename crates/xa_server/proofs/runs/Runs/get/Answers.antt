use Rattle.std.proofs.Common.{sym, ap, ◌∙◌, arith}
use Rattle.xa_xid.specs.Xid.{bytes_cmp}
use Rattle.xa_server.proofs.Parted.{get-at}
use Rattle.std.specs.FinMap as map
use Rattle.xa_server.proofs.runs.Runs.get.Goals as goal

pub returns-in-None : goal.returns-in-None
returns-in-None c =
    sym (map.get-empty bytes_cmp c.args.key.now)
    ∙ get-at c.parts.result.now c.args.key.now c.part_of.result map.empty c.part_of.ensures.which
    (c.in-None.ensures.lookup.4 (omega arith) map.empty)
    ∙ ap (λ m. map.get m c.args.key.now) c.parts.ensures

pub returns-in-Some : goal.returns-in-Some
returns-in-Some c =
    c.get-in-Some.ensures
    ∙ get-at c.parts.result.now c.args.key.now c.part_of.result c.in-Some.part.now c.part_of.ensures.which
    (c.in-Some.ensures.lookup.4 (omega arith) map.empty)
    ∙ ap (λ m. map.get m c.args.key.now) c.parts.ensures
