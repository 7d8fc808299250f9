-- The seats of a ring: its words have what splitting and joining seats asks, and words of zeros begin it.
use Rattle.std.proofs.Common.{◌≡◌, ℕ, ◌<◌, [], sym, ap, ◌∙◌, Some, None, arith}
use Rattle.xa_words.specs.Entry.{Entry}
use Rattle.decision_log.specs.{declared.sizes.Sizes.Sizes, Seats.all_passes, AtTable.{KeepsSeats, OpensSeats}}
use Rattle.decision_log.proofs.SeatRule.{HasWords, seats_kept, opens_seats}
use Rattle.chain_log.specs.{Cells.newest_of, Places.{rows_of, word_count}, RingRule.{newest_for, HasCells, HasNotes}}
use Rattle.chain_log.proofs.{Names.name_zero, RingSteps.{Rules, idle}}

-- a ring's words have what `HasWords` asks: an idle pass knows nothing of them, and word 0 names the newest entry
has_words : HasWords HasCells HasNotes newest_for
has_words = record {
  idle = λ words log h empty without. idle words log h empty without;
  newest_is = λ sizes words log h cells same. cells.newest ∙ ap (λ s. newest_of s log) (sym same);
}

-- the rule is kept where seats are split and joined, a pass is issued, and passes meet
pub keeps_seats : KeepsSeats Rules newest_for
keeps_seats = seats_kept has_words

-- a ring with a row can begin, as `OpensSeats` says, with as many words as it has, of which word 0 is 0
pub opens : (sizes : Sizes) (words : ℕ) → 0 < rows_of sizes.capacity
    → words ≡ word_count sizes.sessions (rows_of sizes.capacity)
    → OpensSeats Rules all_passes newest_for sizes words
opens sizes words some count =
    opens_seats has_words sizes words (omega (arith, count))
    (λ list wide zeros. record {
      some = some;
      wide = wide ∙ count;
      newest = zeros ∙ sym (name_zero sizes.sessions []);
      cells = λ place entry is. absurd (never entry is);
      fresh = λ place entry is. absurd (never entry is);
    })
  where
    never : (entry : Entry) → None ≡ Some entry → ⊥
    never entry is = cc
