use Rattle.std.proofs.Common.{◌+◌, ap, ◌∙◌, arith}
use Rattle.decision_log.specs.Seats.{pass_view_of}
use Rattle.chain_log.{specs.Cells.cell_at, proofs.{ChainSteps.read_step, Names.name_next_one, Ours.seen_name}}
use Rattle.chain_log.proofs.chain.ChainLog.load_word.Goals as goal

pub cell_start-requires-clause-low : goal.cell_start-requires-clause-low
cell_start-requires-clause-low c =
    (seen_name c.args.self.now (pass_view_of c.args.seat.now.me.0) c.args.name c.requires.ours c.requires.named).low

pub cell_start-requires-clause-high : goal.cell_start-requires-clause-high
cell_start-requires-clause-high c =
    (seen_name c.args.self.now (pass_view_of c.args.seat.now.me.0) c.args.name c.requires.ours c.requires.named).high

pub overflow_add-word : goal.overflow_add-word
overflow_add-word c =
    let n = seen_name c.args.self.now (pass_view_of c.args.seat.now.me.0) c.args.name c.requires.ours
    c.requires.named in
    omega (arith, n.high, c.cell_start.ensures, c.requires.index)

pub load-requires-clause-word : goal.load-requires-clause-word
load-requires-clause-word c =
    let n = seen_name c.args.self.now (pass_view_of c.args.seat.now.me.0) c.args.name c.requires.ours
    c.requires.named in
    omega (arith, c.args.self.now.wide, n.words c.args.index c.requires.index, c.cell_start.ensures)

pub load-requires-clause-allowed : goal.load-requires-clause-allowed
load-requires-clause-allowed c =
    let start = c.cell_start.ensures in
    read_step c.args.self.now.table.inner.shared.key c.args.self.now.table.inner.shared.table_id.slots
    c.args.seat.now.id (c.cell_start.result + c.args.index)
    (pass_view_of c.args.seat.now.me.0) (λ e. omega arith)

pub returns-clause-read : goal.returns-clause-read
returns-clause-read c row entry named is =
    let h = pass_view_of c.args.seat.now.me.0 in
    c.load.ensures.told.2 row c.args.index entry
    (ap (λ n. n + c.args.index) (c.cell_start.ensures ∙ ap cell_at
    (named ∙ name_next_one h.sessions h.known.seen row entry is))) c.requires.index is
