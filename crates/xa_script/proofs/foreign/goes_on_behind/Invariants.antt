use Rattle.std.proofs.Common.{◌≡◌, false, drop}
use Rattle.xa_script.specs.Foreign.{goes_on}
use Rattle.xa_script.proofs.foreign.goes_on_behind.Given as goal

abbrev pub invariant-loop-byte : goal.invariant-loop-byte
invariant-loop-byte l = goes_on false l.text ≡ goes_on l.returned (drop l.byte-index l.text)
