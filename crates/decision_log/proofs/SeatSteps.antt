-- What a log shows of seats with stated passes (`Single g`, `Pair g h` and so on), for a seat `me` that is known to
-- have these passes.
use Rattle.std.proofs.Common.{◌≡◌, ℕ, sym, subst}
use Rattle.atomic_table.specs.Table.{State, Me, Allows, Splits, Joins}
use Rattle.xa_words.specs.Entry.{Entry}
use Rattle.decision_log.specs.declared.view.{PassView.PassView, SeatView.SeatView}
use Rattle.decision_log.specs.declared.{view.SeatView.TheVariants.{Empty, Single, Pair, Unissued}, sizes.Sizes.Sizes}
use Rattle.decision_log.specs.Seats.{pass_view_of, second_of, seated, seated_two, seated_rest, left_of, right_of}
use Rattle.decision_log.specs.{Seats.{both_of, following}, Atomic.Meets, AtTable.KeepsSeats}

-- if the rule is kept where a seat with one pass (`g`) splits off an empty seat, it is kept where a seat that has
-- this pass is split
pub at_spare : {holds : State Entry SeatView → Type 0} {id : ℕ} {g : PassView} (me : Me Entry SeatView)
    → ◌≡◌ {A = Me Entry SeatView} me (seated g)
    → Splits holds id (Single g) (Single g) Empty → Splits holds id me.0 (left_of me.0) (right_of me.0)
at_spare {holds} {id} {g} me held is =
    subst (λ (m : Me Entry SeatView). Splits holds id m.0 (left_of m.0) (right_of m.0)) (sym held) is

-- if the rule is kept where a seat with two passes (`g`, `h`) is split, it is for a seat that has them
pub at_split : {holds : State Entry SeatView → Type 0} {id : ℕ} {g h : PassView} (me : Me Entry SeatView)
    → ◌≡◌ {A = Me Entry SeatView} me (seated_two g h)
    → Splits holds id (Pair g h) (Single g) (Single h) → Splits holds id me.0 (left_of me.0) (right_of me.0)
at_split {holds} {id} {g} {h} me held is =
    subst (λ (m : Me Entry SeatView). Splits holds id m.0 (left_of m.0) (right_of m.0)) (sym held) is

-- if the rule is kept where the next pass (`g`) is issued, it is where the seat that has the rest is split
pub at_issue : {holds : State Entry SeatView → Type 0} {id : ℕ} {g : PassView} (me : Me Entry SeatView)
    → ◌≡◌ {A = Me Entry SeatView} me (seated_rest g)
    → Splits holds id (Unissued g) (Unissued (following g)) (Single g)
    → Splits holds id me.0 (left_of me.0) (right_of me.0)
at_issue {holds} {id} {g} me held is =
    subst (λ (m : Me Entry SeatView). Splits holds id m.0 (left_of m.0) (right_of m.0)) (sym held) is

-- if the rule is kept where two seats with a pass each (`g`, `h`) are joined, it is for two seats that have them
pub at_join : {holds : State Entry SeatView → Type 0} {id other : ℕ} {g h : PassView} (me you : Me Entry SeatView)
    → ◌≡◌ {A = Me Entry SeatView} me (seated g)
    → ◌≡◌ {A = Me Entry SeatView} you (seated h) → Joins holds id (Single g) other (Single h) (Pair g h) Empty
    → Joins holds id me.0 other you.0 (both_of me.0 you.0) Empty
at_join {holds} {id} {other} {g} {h} me you held held' is =
    subst (λ (m : Me Entry SeatView). Joins holds id m.0 other you.0 (both_of m.0 you.0) Empty) (sym held)
    (subst (λ (m : Me Entry SeatView). Joins holds id (Single g) other m.0 (both_of (Single g) m.0) Empty)
    (sym held') is)

-- a rule as in `KeepsSeats` allows a seat that has two passes (`g`, `h`) the load of word 0 by which they meet
pub at_meet : {holds : Sizes → State Entry SeatView → Type 0} {newest : PassView → ℕ} (rule : KeepsSeats holds newest)
    (sizes : Sizes) (slots id : ℕ)
    (g h : PassView)
    (me : Me Entry SeatView) → ◌≡◌ {A = Me Entry SeatView} me (seated_two g h)
    → Allows (holds sizes) slots id me 0 (λ n. n) (Meets newest (pass_view_of me.0) (second_of me.0))
at_meet {holds} {newest} rule sizes slots id g h me held =
    subst (λ (m : Me Entry SeatView). Allows (holds sizes) slots id m 0 (λ n. n)
    (Meets newest (pass_view_of m.0) (second_of m.0))) (sym held)
    (rule.meet sizes slots id g h)
