use Rattle.std.{proofs.Common.{◌≡◌, take}, specs.Prelude.{string_bytes, encode_utf8_all}}
use Rattle.xa_lines.proofs.json_characters.characters.Given as goal

abbrev pub invariant-loop-byte : goal.invariant-loop-byte
invariant-loop-byte l = string_bytes l.string ≡ encode_utf8_all (take l.byte-index l.text)
