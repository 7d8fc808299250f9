use Rattle.std.proofs.Common.{arith}
use Rattle.xa_words.proofs.limits.of_bytes.Goals as goal

pub returns : goal.returns
returns c = record { fits = c.requires; bytes = λ i. omega (arith, c.type_inv.bytes i) }
