-- The value of digits, read one after another.
use Rattle.std.proofs.Common.{◌≡◌, ℕ, ◌+◌, ◌*◌, ◌<◌, ◌≤◌, List, [], ◌∷◌, length, drop, get_or, refl, sym, ◌∙◌, ◌^◌, Ok}
use Rattle.std.proofs.{Common.{Err, arith, add-one, drop-cons}, Math.Nat.{le_refl, mul-le-mul_left}}
use Rattle.std.{proofs.lemmas.{List.drop_all, Bool.{lt-ltb, le-ltb}}, specs.Char.digit_value}
use Rattle.std.specs.Str.Parse.{digits_value, digits_value_after}
use Rattle.xa_xid.specs.{Number.fitting, declared.literal_fault.LiteralFault.TheVariants.NumberTooLarge}

-- reading has come to this place with this value: going on from it over the digits left gives the value of all digits
pub record Reached (base : ℕ) (digits : List ℕ) (place value : ℕ) : Type 0 where
  pub same : digits_value base digits ≡ digits_value_after base value (drop place digits)

-- before the first digit the value is 0
pub reached_none : (base : ℕ) (digits : List ℕ) → Reached base digits 0 0
reached_none base digits = record { same = refl }

-- with one digit more, the value reached is the old one times the base, and the digit
pub reached_more : (base : ℕ) (digits : List ℕ) (place value : ℕ) → place < length digits
    → Reached base digits place value
    → Reached base digits (place + 1) (value * base + digit_value (get_or digits place 0))
reached_more base digits place value within so_far = record {
  same = so_far.same ∙ rw (drop-cons digits place 0 within, add-one) refl;
}

-- once all digits are read, the value that was reached is that of all digits
pub reached_all : (base : ℕ) (digits : List ℕ) (place value : ℕ) → length digits ≤ place
    → Reached base digits place value
    → value ≡ digits_value base digits
reached_all base digits place value past so_far = sym (so_far.same ∙ rw (drop_all place digits past) refl)

-- the value never gets less by digits that follow
grows : (base value : ℕ) (digits : List ℕ) → 1 ≤ base → value ≤ digits_value_after base value digits
grows base value [] positive = le_refl value
grows base value (digit ∷ digits) positive =
    let later : value * base + digit_value digit ≤ digits_value_after base (value * base + digit_value digit) digits =
    grows base (value * base + digit_value digit) digits positive in
    let more : value * 1 ≤ value * base = mul-le-mul_left value positive in
    omega (arith, later, more)

-- if the value that was reached is at least a limit, so is the value of all digits
pub reached_past : (base : ℕ) (digits : List ℕ) (place value limit : ℕ) → 1 ≤ base → limit ≤ value
    → Reached base digits place value
    → limit ≤ digits_value base digits
reached_past base digits place value limit positive past so_far =
    rw so_far.same (omega (arith, grows base value (drop place digits) positive))

-- a value below 2^64 fits
pub fitting_small : (value total : ℕ) → value < 2 ^ 64 → value ≡ total → Ok value ≡ fitting total
unfolding fitting
fitting_small value total small same = rw (← same, lt-ltb value (2 ^ 64) small) refl

-- a value of 2^64 or more doesn't fit
pub fitting_large : (total : ℕ) → 2 ^ 64 ≤ total → Err NumberTooLarge ≡ fitting total
unfolding fitting
fitting_large total large = rw (le-ltb total (2 ^ 64) large) refl
