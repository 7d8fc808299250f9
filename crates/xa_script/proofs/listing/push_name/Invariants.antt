use Rattle.std.proofs.Common.{◌≡◌, ◌++◌, drop}
use Rattle.xa_script.specs.Listing.{tap_name}
use Rattle.xa_script.proofs.listing.push_name.Given as goal

abbrev pub invariant-loop-byte : goal.invariant-loop-byte
invariant-loop-byte l = l.out.items ++ tap_name (drop l.byte-index l.name) ≡ l.fn.out.items ++ tap_name l.name
