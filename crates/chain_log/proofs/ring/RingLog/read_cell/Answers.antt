use Rattle.std.proofs.{Common.arith, lemmas.List.get_or-replicate}
use Rattle.decision_log.specs.Seats.{pass_view}
use Rattle.chain_log.proofs.{Watching.{watch_through, watched_on}, Reading.all_read}
use lib.ListN.{replicate}
use Rattle.chain_log.proofs.ring.RingLog.read_cell.Goals as goal

pub returns-clause-keeps : goal.returns-clause-keeps
returns-clause-keeps c =
    let h = pass_view c.args.seat.now in
    let g = pass_view c.read_words.new.seat in
    let k = pass_view c.read_words-2.new.seat in
    let v = pass_view c.read_words-3.new.seat in
    watch_through h k v (watch_through h g k c.read_words.ensures.keeps c.read_words-2.ensures.keeps)
    c.read_words-3.ensures.keeps

pub returns-clause-read : goal.returns-clause-read
returns-clause-read c place entry is won =
    let h = pass_view c.args.seat.now in
    let g = pass_view c.read_words.new.seat in
    let k = pass_view c.read_words-2.new.seat in
    let one = c.read_words.ensures in
    let two = c.read_words-2.ensures in
    let three = c.read_words-3.ensures in
    let won_two = three.keeps.whole won in
    let won_one = two.keeps.whole won_two in
    let on = watched_on c.args.start place entry h g one.keeps is in
    let still = watched_on c.args.start place entry g k two.keeps on in (
      (one.read place entry is won_one 0 (omega arith) (omega arith)).0,
      all_read entry (replicate 21 0) c.read_words.new.words c.read_words-2.new.words c.read_words-3.new.words
          c.words_filled-first.result c.words_filled-second.result
          (λ word less. get_or-replicate 21 word 0 0 less)
          (record {
            below = one.below;
            above = one.above;
            read = λ word from less.
                (one.read place entry is won_one word from less).1;
          })
          (record {
            below = two.below;
            above = two.above;
            read = λ word from less.
                (two.read place entry on won_two word from less).1;
          })
          (record {
            below = three.below;
            above = three.above;
            read = λ word from less.
                (three.read place entry still won word from less).1;
          })
          c.words_filled-first.ensures.most
          c.words_filled-first.ensures.behind
          c.words_filled-second.ensures.behind
          three.sized,
    )
