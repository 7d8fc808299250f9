use Rattle.std.proofs.Common.{◌≡◌, ◌<◌, ◌+◌, ◌*◌, ◌++◌, ℕ, ap, sym, ◌∙◌, arith, length, get_or}
use Rattle.std.{proofs.lemmas.List.{length-append, take_all}, specs.Int.{w64, to_be_bytes}}
use Rattle.xa_words.proofs.Texts.{one_word_more}
use Rattle.xa_words.proofs.reading.whole_words.Goals as goal

pub loop-index-preserved : goal.loop-index-preserved
loop-index-preserved c =
    let i = c.loop-index.invariant in
    let text = c.loop-index.text.items in
    let word = get_or c.args.words.now c.loop-index.index 0 in
    let e = c.push_bytes.ensures ∙ ap (λ bytes. text ++ bytes) (take_all 8 (to_be_bytes w64 word) (omega arith)) in
    let size : length c.push_bytes.new.text.items ≡ 8 * (c.loop-index.index + 1) =
    ap length e ∙ length-append text (to_be_bytes w64 word) ∙ omega (arith, i.size) in
    record {
      size = size;
      bytes =
          λ place below. ap (λ xs. get_or xs place 0) e
          ∙ one_word_more c.args.words.now text c.loop-index.index i.size i.bytes place (omega (arith, size, below));
    }
