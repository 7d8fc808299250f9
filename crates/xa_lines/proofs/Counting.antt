-- How many elements come before the first that passes a test, as `position` finds it.
use Rattle.std.proofs.Common.{◌≡◌, ℕ, ltb, Bool, not, cond, Option, Some, None, List, length, arith}
use Rattle.std.{proofs.lemmas.{Grind.common_steps, List.Sums.prefix_len-le-length}, specs.List.position_or_len}
use Rattle.std.specs.Option.{unwrap_or}

-- the place that `position` gives, or else the length, is the number of elements before the first that passes the test
pub from_position : (test : ℕ → Bool) (xs : List ℕ) (r : Option ℕ)
    → r ≡ cond (ltb (position_or_len test xs) (length xs)) (Some (position_or_len test xs)) None
    → unwrap_or r (length xs) ≡ position_or_len test xs
from_position test xs r e = grind (arith, common_steps, not, position_or_len, prefix_len-le-length)
