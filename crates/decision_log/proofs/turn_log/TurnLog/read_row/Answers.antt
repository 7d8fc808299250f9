use Rattle.std.proofs.{Common.{◌≡◌, Some, arith, sym, ap, ◌∙◌, refl}, lemmas.List.{length-set, ext_get_or}}
use Rattle.std.specs.Prelude.{slice_get}
use Rattle.xa_words.{specs.Words.words_of, proofs.Spelling.length-words_of}
use Rattle.decision_log.{specs.Seats.pass_view_of, proofs.Drafts.one_more}
use Rattle.decision_log.proofs.turn_log.TurnLog.read_row.Goals as goal

pub loop-index-preserved : goal.loop-index-preserved
loop-index-preserved c =
    let inv = c.loop-index.invariant in
    record {
      seat = c.load_word.ensures.seat;
      sized = length-set c.loop-index.words c.loop-index.index c.load_word.result ∙ inv.sized;
      same = c.load_word.ensures.same ∙ inv.same;
      read =
          λ entry is.
          let there : slice_get (pass_view_of c.loop-index.seat.me.0).known.seen c.args.place ≡ Some entry =
          ap (λ h. slice_get h.known.seen c.args.place) inv.same ∙ is in
          let told = c.load_word.ensures.read c.args.place c.loop-index.index entry refl c.loop-index-test.true there
          in (
            (λ p. told.0),
            one_more c.loop-index.words (words_of entry) c.loop-index.index c.load_word.result
                (omega (arith, inv.sized, c.loop-index-test.true)) told.1
                (inv.read entry is).1,
          );
    }

pub returns-clause-read : goal.returns-clause-read
returns-clause-read c entry is =
    let inv = c.loop-index.invariant in
    let done = c.loop-index-test.false in
    let told = inv.read entry is in (
      told.0 (omega arith),
      ext_get_or 0 c.loop-index.words (words_of entry) (inv.sized ∙ sym (length-words_of entry))
          (λ k below. told.1 k (omega (arith, inv.sized))),
    )
