use Rattle.std.proofs.Common.{◌++◌, ◌∙◌, ap, sym, append-nil}
use Rattle.xa_races.proofs.Race.{entries_text-more, entries_text-none, grown}
use Rattle.xa_races.proofs.race_text.push_entries.Goals as goal

pub loop-place-init : goal.loop-place-init
loop-place-init c =
    sym (ap (λ text. c.args.text.now.items ++ text) (entries_text-none 0) ∙ append-nil c.args.text.now.items)

pub loop-place-preserved : goal.loop-place-preserved
loop-place-preserved c =
    grown _ _ _ _ _ _ c.loop-place.invariant c.in_ok-push_entry.ensures
    (entries_text-more c.args.entries.now c.loop-place.place c.index-entries-place.result c.loop-place-test.true
    c.index-entries-place.is)
