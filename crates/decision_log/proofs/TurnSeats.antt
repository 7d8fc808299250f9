-- The seats of a log with a turn: its words have what splitting and joining seats asks, and words of zeros begin it.
use Rattle.std.proofs.Common.{◌≡◌, length, sym, subst, Some, None, arith}
use Rattle.xa_words.specs.Entry.{Entry}
use Rattle.decision_log.specs.{declared.sizes.Sizes.Sizes, Seats.all_passes, AtTable.{KeepsSeats, OpensSeats}}
use Rattle.decision_log.{specs.TurnRule.{row_at, count_for, HasRows, HasTurn, HasDraft}, proofs.Drafts.holds_nothing}
use Rattle.decision_log.proofs.{SeatRule.{HasWords, seats_kept, opens_seats}, TurnSteps.Rules}

-- the words of a log with a turn have what `HasWords` asks: an idle pass knows nothing of them, and word 0 is the count
has_words : HasWords HasRows HasDraft count_for
has_words = record {
  idle = λ words log h blank without. record {
    draft = holds_nothing words (row_at (length log)) h.draft blank;
    turn = subst (λ turn. HasTurn words log h turn) (sym without) blank;
  };
  newest_is = λ sizes words log h rows same. rows.count;
}

-- splitting and joining seats keeps the rule, and so does a meeting of two passes
pub keeps_seats : KeepsSeats Rules count_for
keeps_seats = seats_kept has_words

-- a log of any sizes can begin: with as many words as it has, and 0 in word 0, the rule holds, as `OpensSeats` says
pub opens : (sizes : Sizes) → OpensSeats Rules all_passes count_for sizes (row_at sizes.capacity)
opens sizes =
    opens_seats has_words sizes (row_at sizes.capacity) (omega arith)
    (λ words wide zeros. record { wide = wide; count = zeros; rows = λ place entry is. absurd (never entry is) })
  where
    never : (entry : Entry) → None ≡ Some entry → ⊥
    never entry is = cc
