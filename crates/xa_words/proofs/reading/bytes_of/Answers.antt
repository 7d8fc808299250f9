use Rattle.std.proofs.Common.{◌/◌, ◌%◌, ap, ◌∙◌, arith, length, get_or}
use Rattle.xa_words.proofs.Texts.{some_bytes_more}
use Rattle.xa_words.proofs.reading.bytes_of.Goals as goal

pub returns-then-size-gt0-clause-bytes : goal.returns-then-size-gt0-clause-bytes
returns-then-size-gt0-clause-bytes c place below =
    let text = c.whole_words-text.ensures in
    ap (λ bytes. get_or bytes place 0) c.push_bytes.ensures
    ∙ some_bytes_more c.args.words.now c.whole_words-text.result.items (c.args.size / 8) (c.args.size % 8) text.size
    (omega arith) (λ k l. text.bytes k (omega (arith, l, text.size))) place (omega (arith, below))
