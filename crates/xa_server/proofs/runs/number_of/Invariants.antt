use Rattle.std.proofs.Common.{◌≡◌, fold, take}
use Rattle.xa_server.specs.Parts.{with_byte}
use Rattle.xa_server.proofs.runs.number_of.Given as goal

-- the number of the bytes so far
abbrev pub invariant-loop-byte : goal.invariant-loop-byte
invariant-loop-byte l = l.number ≡ fold with_byte 0 (take l.byte-index l.bytes)
