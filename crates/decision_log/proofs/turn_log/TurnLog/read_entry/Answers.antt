use Rattle.std.proofs.Common.{sym, ◌∙◌, rules}
use Rattle.decision_log.{specs.Seats.pass_view, proofs.Histories.there}
use Rattle.decision_log.proofs.turn_log.TurnLog.read_entry.Goals as goal

pub unwrap-requires : goal.unwrap-requires
unwrap-requires c =
    let e = there (pass_view c.args.seat.now).known.seen c.args.place c.requires.seen in
    let told = c.read_row-words.ensures.read e.0 e.1 in
    rw (c.read_back.ensures e.0 told.0 told.1) (search rules)

pub returns-clause-entry : goal.returns-clause-entry
returns-clause-entry c =
    let e = there (pass_view c.args.seat.now).known.seen c.args.place c.requires.seen in
    let told = c.read_row-words.ensures.read e.0 e.1 in
    e.1 ∙ sym (c.read_back.ensures e.0 told.0 told.1) ∙ c.unwrap.ensures
