use Rattle.std.proofs.Common.{◌≡◌, ℕ, ◌+◌, ◌<◌, List, ◌∷◌, Some, length, get_or, arith, one-add, sym, ap, ◌∙◌, subst}
use Rattle.std.{proofs.lemmas.List.{length-set, ext_get_or}, specs.Prelude.{slice_get, slice_index}}
use Rattle.xa_words.{specs.Words.words_of, proofs.Spelling.length-words_of}
use Rattle.decision_log.{specs.Seats.pass_view, proofs.Drafts.one_more}
use Rattle.chain_log.specs.Cells.{name_before}
use Rattle.chain_log.proofs.chain.ChainLog.read_cell.Goals as goal

pub read_word-requires-clause-named : goal.read_word-requires-clause-named
read_word-requires-clause-named c =
    subst (λ h. (row : ℕ) × (row < length h.known.seen) × (c.args.name ≡ name_before h.sessions h.known.seen (row + 1)))
    (sym c.loop-index.invariant.same) c.requires.named

pub loop-index-preserved : goal.loop-index-preserved
loop-index-preserved c =
    let inv = c.loop-index.invariant in
    record {
      seat = c.read_word.ensures.seat;
      sized = length-set c.loop-index.words c.loop-index.index c.read_word.result ∙ inv.sized;
      same = c.read_word.ensures.same ∙ inv.same;
      read =
          λ row entry named is.
          let h = pass_view c.loop-index.seat in
          let there : slice_get h.known.seen row ≡ Some entry = ap (λ h. slice_get h.known.seen row) inv.same ∙ is in
          let name : c.args.name ≡ name_before h.sessions h.known.seen (row + 1) =
          named ∙ ap (λ h. name_before h.sessions h.known.seen (row + 1)) (sym inv.same) in
          let before = inv.read row entry named is in
          let told = c.read_word.ensures.read row entry name there before.0 before.1 in (
            (λ p. told.0),
            one_more c.loop-index.words (words_of entry) c.loop-index.index c.read_word.result
                (omega (arith, inv.sized, c.loop-index-test.true))
                told.1 before.1,
          );
    }

pub returns-clause-read : goal.returns-clause-read
returns-clause-read c row entry named is =
    let inv = c.loop-index.invariant in
    let done = c.loop-index-test.false in
    let told = inv.read row entry named is in (
      told.0 (omega arith),
      ext_get_or 0 c.loop-index.words (words_of entry) (inv.sized ∙ sym (length-words_of entry))
          (λ k below. told.1 k (omega (arith, inv.sized))),
    )
