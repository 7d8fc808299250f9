use Rattle.std.proofs.Common.{◌∙◌, ap, Vec, Global, Bool}
use Rattle.xa_races.proofs.RaceRuns.{part_within, part_beyond}
use Rattle.xa_races.proofs.race_text.list_at.Goals as goal

pub returns-in-Some : goal.returns-in-Some
returns-in-Some c =
    c.as_slice.ensures.value ∙ ap (λ (list : Vec Bool Global). list.items) c.in-Some.ensures.lookup.1
    ∙ part_within (λ list. list.items) c.args.asked.now c.args.index c.in-Some.list.now c.in-Some.ensures.lookup.3.0

pub returns-in-None : goal.returns-in-None
returns-in-None c = part_beyond (λ list. list.items) c.args.asked.now c.args.index c.in-None.ensures.lookup.3
