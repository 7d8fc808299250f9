use Rattle.std.{proofs.Common.{◌≡◌, ◌++◌, take}, specs.List.flat_map}
use Rattle.xa_lines.specs.Listing.{row_line}
use Rattle.xa_lines.proofs.listing.with_rows.Given as goal

abbrev pub invariant-loop-key : goal.invariant-loop-key
invariant-loop-key l = l.longer.items ≡ l.initial.longer.items ++ flat_map (row_line l.server) (take l.key-index l.keys)
