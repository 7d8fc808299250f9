use Rattle.std.proofs.Common.{◌+◌, ap, ◌∙◌, arith}
use Rattle.decision_log.specs.Seats.{pass_view_of}
use Rattle.chain_log.{specs.Cells.cell_at, proofs.{ChainStores.find_step, Ours.own_name}}
use Rattle.chain_log.proofs.chain.ChainLog.find_blank.Goals as goal

pub load-requires-clause-word : goal.load-requires-clause-word
load-requires-clause-word c =
    let n = own_name c.args.self.now (pass_view_of c.args.seat.now.me.0) c.args.name c.requires.ours c.requires.room
    c.requires.own in
    omega (arith, c.args.self.now.wide, n.words c.args.index c.requires.index, c.cell_start.ensures)

pub load-requires-clause-allowed : goal.load-requires-clause-allowed
load-requires-clause-allowed c =
    find_step c.args.self.now.table.inner.shared.key c.args.self.now.table.inner.shared.table_id.slots
    c.args.seat.now.id
    (c.cell_start.result + c.args.index) c.args.index (pass_view_of c.args.seat.now.me.0)
    (ap (λ n. n + c.args.index) (c.cell_start.ensures ∙ ap cell_at c.requires.own)) c.requires.along c.requires.index
    c.requires.room
