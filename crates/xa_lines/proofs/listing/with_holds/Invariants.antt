use Rattle.std.{proofs.Common.{◌≡◌, ◌++◌, take}, specs.List.flat_map}
use Rattle.xa_lines.specs.Listing.{hold_line}
use Rattle.xa_lines.proofs.listing.with_holds.Given as goal

abbrev pub invariant-loop-row : goal.invariant-loop-row
invariant-loop-row l = l.longer.items ≡ l.initial.longer.items ++ flat_map hold_line (take l.row-index l.rows)
