-- No order explains what was read of a text.
use Rattle.std.proofs.Common.{◌≡◌, Bool, true, Result, Ok, Err, IfOk, List, [], ℕ}
use Rattle.xa_server.specs.State.{State}
use Rattle.xa_judge.specs.declared.event.Event.{Event}
use Rattle.xa_record.specs.{declared.{allowance.Allowance.Allowance, asked.Asked.Asked}, Events.AreEvents}
use Rattle.xa_record.specs.{Reading.notes_by, Shrinking.{AreUnexplained, IsUnexplained}}

-- if no line is faulty, a result that says of the events that were read that no order explains them says so of the
-- record
pub text-unexplained : {E : Type 0} (result : Result Bool E) (base : State) (allowances : List Allowance)
    (asked : Asked) (text : List ℕ) (events : List Event) → (notes_by asked.strict_calls text).faults ≡ []
    → AreEvents allowances (notes_by asked.strict_calls text).told events
    → IfOk result (λ refuted. refuted ≡ true → AreUnexplained base events asked.limit)
    → IfOk result (λ refuted. refuted ≡ true → IsUnexplained base allowances asked text)
text-unexplained (Ok refuted) base allowances asked text events clean are is =
    λ holds. record { faultless = clean; events = events; are = are; unexplained = is holds }
text-unexplained (Err fault) base allowances asked text events clean are is = tt
