-- Tries to write a text. What a call may do is said as in `Calls`, and in addition by `interrupts old new`: that it may
-- be interrupted, and leave the stream so.
use Rattle.std.specs.Prelude.{◌≡◌, ◌⊎◌, ℕ, zero, suc, ◌-◌, ◌^◌, ◌<◌, ◌≤◌, List, [], ◌++◌, length}

-- a write took some bytes; or it was interrupted, and took none
abbrev pub IsTry : {S : Type 0} → (S → List ℕ → S → Type 0) → (S → S → Type 0) → S → List ℕ → S → Type 0
IsTry takes interrupts old bytes new = (takes old bytes new × (0 < length bytes)) ⊎ (interrupts old new × (bytes ≡ []))

-- so many writes one after another took these bytes in all
unfoldable pub Tries : {S : Type 0} → (S → List ℕ → S → Type 0) → (S → S → Type 0) → ℕ → S → List ℕ → S → Type 0
-- so many writes one after another, which took bytes in all
Tries takes interrupts zero old bytes new = (new ≡ old) × (bytes ≡ [])
Tries {S} takes interrupts (suc count) old bytes new =
    (mid : S) × (before : List ℕ) × (piece : List ℕ) × Tries takes interrupts count old before mid
    × IsTry takes interrupts mid piece new
    × (bytes ≡ before ++ piece)

-- writes took all of the text
abbrev pub HasTried : {S : Type 0} → (S → List ℕ → S → Type 0) → (S → S → Type 0) → S → List ℕ → S → Type 0
HasTried takes interrupts old text new = (count : ℕ) × Tries takes interrupts count old text new

-- no further write was tried: the last one failed or took nothing, or 2^64 - 1 writes or more were made
abbrev pub IsLastTry : {S : Type 0} → (S → List ℕ → S → Type 0) → (S → S → Type 0) → ℕ → S → S → Type 0
IsLastTry takes refuses count old new =
    (refuses old new ⊎ takes old [] new) ⊎ ((2 ^ 64 - 1 ≤ count) × (new ≡ old))

-- writes took a part of the text, and then there was no further one
pub record StopsTrying {S : Type 0} (takes : S → List ℕ → S → Type 0) (interrupts refuses : S → S → Type 0) (old : S)
    (text : List ℕ) (new : S) : Type 0 where
  pub count : ℕ
  pub last : S
  pub taken : List ℕ
  pub left : List ℕ
  pub calls : Tries takes interrupts count old taken last
  pub parts : text ≡ taken ++ left
  pub stopped : IsLastTry takes refuses count last new
