use Rattle.std.proofs.Common.{arith}
use Rattle.xa_words.proofs.Texts.{only_text}
use Rattle.xa_words.proofs.reading.text_of.Goals as goal

pub returns-clause-some : goal.returns-clause-some
returns-clause-some c text is len same =
    let read = c.bytes_of.ensures in
    only_text c.args.words.now c.bytes_of.result.items text is (omega (arith, len, read.size))
    (λ place below. read.bytes place (omega (arith, below, read.size))) same
