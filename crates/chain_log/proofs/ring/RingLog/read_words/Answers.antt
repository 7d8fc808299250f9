use Rattle.std.proofs.Common.{ℕ, ◌+◌, ◌<◌, List, length, get_or, set, refl, ap, sym, ◌∙◌, arith}
use Rattle.std.proofs.lemmas.List.{length-set, get_or-set_same, get_or-set_other}
use mathlib.Core.Logic.{dite}
use Rattle.xa_words.specs.Words.{words_of}
use Rattle.decision_log.specs.Seats.{pass_view}
use Rattle.chain_log.specs.Cells.{name_at, name_before}
use Rattle.chain_log.proofs.Watching.{watch_itself, watch_through, watched_on, word_there, behind_link}
use native.Mathlib.Decide.{ℕ_discrete}
use Rattle.chain_log.proofs.ring.RingLog.read_words.Goals as goal

pub loop-index-init : goal.loop-index-init
loop-index-init c = record {
  seat = c.requires.seat;
  sized = c.requires.sized;
  keeps = watch_itself (pass_view c.args.seat.now);
  below = λ place less. refl;
  above = λ place behind. refl;
  read = λ place entry is won word from less. absurd (omega arith);
}

pub loop-index-preserved : goal.loop-index-preserved
loop-index-preserved c =
    let inv = c.loop-index.invariant in
    let h = pass_view c.args.seat.now in
    let g = pass_view c.loop-index.seat in
    let k = pass_view c.load_word.new.seat in
    let at : ℕ = c.loop-index.index in
    let new : ℕ = c.load_word.result in
    let words : List ℕ = c.loop-index.words in
    let fits : at < length words = omega (arith, inv.sized, c.loop-index-test.true, c.requires.end) in
    let reads = c.load_word.ensures.read in
    record {
      seat = c.load_word.ensures.seat;
      sized = length-set words at new ∙ inv.sized;
      keeps = watch_through h g k inv.keeps reads.1;
      below = λ place less. get_or-set_other words at place new 0 (λ e. omega (arith, less, e)) ∙ inv.below place less;
      above = λ place behind. get_or-set_other words at place new 0
          (λ e. omega (arith, behind, e, c.loop-index-test.true)) ∙ inv.above place behind;
      read =
          λ place entry is won word from less.
          dite (ℕ_discrete word at)
          (λ e.
          let on = watched_on c.args.start place entry h g inv.keeps is in
          let told = word_there c.args.start place (2 + at) new entry g k on reads won
          (omega (arith, inv.sized, fits)) in (
            told.0,
            ap (λ n. get_or (set words at new) n 0) e ∙ get_or-set_same words at new 0 fits ∙ told.1
                ∙ behind_link (name_at g.sessions place entry.session) (name_before g.sessions g.known.seen place) at
                (words_of entry)
                ∙ ap (λ n. get_or (words_of entry) n 0) (sym e),
          ))
          (λ ne.
          let before = inv.read place entry is (reads.1.whole won) word from (omega (arith, less, ne)) in (
            before.0,
            get_or-set_other words at word new 0 ne ∙ before.1,
          ));
    }

pub returns-clause-read : goal.returns-clause-read
returns-clause-read c place entry is won word from less =
    c.loop-index.invariant.read place entry is won word from (omega (arith, less, c.loop-index-test.false))
