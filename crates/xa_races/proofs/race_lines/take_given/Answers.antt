use Rattle.std.proofs.Common.{refl, ◌∙◌, ap, max}
use Rattle.xa_races.proofs.ReadLines.{unread_at, takes_unread}
use Rattle.xa_races.proofs.race_lines.take_given.Goals as goal

pub returns-in-Err : goal.returns-in-Err
returns-in-Err c =
    takes_unread c.push_fault.result c.args.number c.args.session c.args.text.now c.in-Err.fault.at c.args.given.now _
    (unread_at _ c.in-Err.fault c.in-Err.ensures.value) c.push_fault.ensures
    (c.max-given.ensures ∙ ap (max c.args.given.now.greatest) c.get.ensures.value) refl
