use Rattle.std.proofs.Common.{sym, ◌∙◌, rules}
use Rattle.decision_log.{specs.Seats.pass_view, proofs.Histories.there}
use Rattle.chain_log.proofs.chain.ChainLog.read_entry.Goals as goal

pub unwrap-requires : goal.unwrap-requires
unwrap-requires c =
    let e = there (pass_view c.args.seat.now).known.seen c.args.row c.requires.seen in
    let told = c.read_cell-words.ensures.read c.args.row e.0 c.requires.name e.1 in
    rw (c.read_back.ensures e.0 told.0 told.1) (search rules)

pub returns-clause-entry : goal.returns-clause-entry
returns-clause-entry c =
    let e = there (pass_view c.args.seat.now).known.seen c.args.row c.requires.seen in
    let told = c.read_cell-words.ensures.read c.args.row e.0 c.requires.name e.1 in
    e.1 ∙ sym (c.read_back.ensures e.0 told.0 told.1) ∙ c.unwrap.ensures
