use Rattle.std.proofs.Common.{◌∙◌, sym}
use Rattle.xa_script.proofs.ListedTexts.{notes_end}
use Rattle.xa_script.proofs.listing.push_notes.Goals as goal

pub returns : goal.returns
returns c =
    notes_end c.loop-rest.out.items _ c.loop-rest.rest.now (sym c.is_empty.ensures ∙ c.loop-rest-test.false)
    c.loop-rest.invariant
