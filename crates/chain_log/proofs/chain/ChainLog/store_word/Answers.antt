use Rattle.std.proofs.Common.{◌+◌, ap, ◌∙◌, arith}
use Rattle.decision_log.specs.Seats.{pass_view_of}
use Rattle.chain_log.{specs.Cells.cell_at, proofs.{ChainStores.draft_step, Ours.own_name}}
use Rattle.chain_log.proofs.chain.ChainLog.store_word.Goals as goal

pub store-requires-clause-word : goal.store-requires-clause-word
store-requires-clause-word c =
    let n = own_name c.args.self.now (pass_view_of c.args.seat.now.me.0) c.args.name c.requires.ours c.requires.room
    c.requires.own in
    omega (arith, c.args.self.now.wide, n.words c.args.index c.requires.index, c.cell_start.ensures)

pub store-requires-clause-allowed : goal.store-requires-clause-allowed
store-requires-clause-allowed c =
    draft_step c.args.self.now.table.inner.shared.key c.args.self.now.table.inner.shared.table_id.slots
    c.args.seat.now.id
    (c.cell_start.result + c.args.index) c.args.index c.args.new (pass_view_of c.args.seat.now.me.0)
    (ap (λ n. n + c.args.index) (c.cell_start.ensures ∙ ap cell_at c.requires.own)) c.requires.along c.requires.index
    c.requires.room
