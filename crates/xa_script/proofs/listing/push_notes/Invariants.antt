use Rattle.std.proofs.Common.{◌≡◌, ◌++◌, length}
use Rattle.xa_lines.specs.Script.{lines_of}
use Rattle.xa_script.specs.Listing.{notes_of}
use Rattle.xa_script.proofs.listing.push_notes.Given as goal

abbrev pub invariant-loop-rest : goal.invariant-loop-rest
invariant-loop-rest l = l.out.items ++ notes_of (lines_of l.rest) ≡ l.fn.out.items ++ notes_of (lines_of l.text)

abbrev pub decreases-loop-rest : goal.decreases-loop-rest
decreases-loop-rest l = length l.rest
