use Rattle.std.proofs.Common.{◌∙◌, sym}
use Rattle.xa_script.proofs.ListedTexts.{no_first}
use Rattle.xa_script.proofs.listing.first_line.Goals as goal

pub returns-then-is_empty : goal.returns-then-is_empty
returns-then-is_empty c = no_first c.args.text.now (sym c.is_empty.ensures ∙ c.if-is_empty.true)
