-- What a writer of texts owes. `old` and `new` are what its inner writer has got, if that is known; `due` is what has
-- to be written, `given` how many bytes of that are written, and `held` what was taken of the line (`src/texts.rt`).
use Rattle.std.proofs.Common.{◌≡◌, ◌∙◌, ◌+◌, ◌-◌, ◌++◌, ℕ, List, [], Option, Some, None, ap, ap₂, sym, append-nil}
use Rattle.std.proofs.Common.{subst, length, take, drop, Result, Ok, Err, inl, inr, ◌⊎◌, ◌<◌, ◌≤◌, false, arith}
use Rattle.std.proofs.lemmas.{Bool.cases_lt, List.{append_assoc, take_rest, take-append-drop, drop-drop}}
use Rattle.std.specs.{Io.KnownBytes.{Appends, Keeps, append_known}, Prelude.OnOk}
use Rattle.xa_script.specs.TextLines.{ends_line}

-- the bytes that are still due are the first `count` of them, and then the others
split_due : (due : List ℕ) (given count : ℕ) → take count (drop given due) ++ drop (given + count) due ≡ drop given due
split_due due given count = ap (λ rest. take count (drop given due) ++ rest) (sym (drop-drop count given due))
    ∙ take-append-drop count (drop given due)

-- if `count` more of the due bytes are written, what was written and what is still due are together what they were
pub given_more : (old new : Option (List ℕ)) (due : List ℕ) (given count : ℕ)
    → Appends old new (take count (take (length due - given) (drop given due)))
    → Keeps (append_known old (drop given due)) (append_known new (drop (given + count) due))
given_more None new due given count written = tt
given_more (Some old) None due given count written = absurd written
given_more (Some old) (Some new) due given count written =
    let P : List ℕ → Type 0 = λ piece. new ≡ old ++ take count piece in
    let plain = subst P (take_rest due given) written in
    let rest = drop (given + count) due in
    ap (λ (xs : List ℕ). xs ++ rest) plain
    ∙ append_assoc old (take count (drop given due)) rest
    ∙ ap (λ (xs : List ℕ). old ++ xs) (split_due due given count)

-- if what is written and due stays the same, where it is known, so does that with the same held bytes behind it
pub known_kept : (old new : Option (List ℕ)) (due rest held same : List ℕ)
    → Keeps (append_known old due) (append_known new rest) → same ≡ held
    → Keeps (append_known old (due ++ held)) (append_known new (rest ++ same))
known_kept None new due rest held same kept is = tt
known_kept (Some old) None due rest held same kept is = absurd kept
known_kept (Some old) (Some new) due rest held same kept is =
    sym (append_assoc new rest same)
    ∙ ap₂ (λ (xs ys : List ℕ). xs ++ ys) kept is
    ∙ append_assoc old due held

-- where nothing is due or held any more, what was known is what the inner writer has got
pub all_given : (known old new : Option (List ℕ)) (due held : List ℕ) → Keeps known (append_known old (due ++ held))
    → due ≡ [] → held ≡ [] → Keeps old new
    → Keeps known new
all_given None old new due held kept no_due no_held still = tt
all_given (Some known) None new due held kept no_due no_held still = absurd kept
all_given (Some known) (Some old) None due held kept no_due no_held still = absurd still
all_given (Some known) (Some old) (Some new) due held kept no_due no_held still =
    let none : due ++ held ≡ [] = ap₂ (λ (xs ys : List ℕ). xs ++ ys) no_due no_held in
    still ∙ sym (append-nil old) ∙ ap (λ (xs : List ℕ). old ++ xs) (sym none) ∙ kept

-- where nothing was due (`before`) and nothing is held any more, a text that is due now, and of which nothing is given
-- yet, comes behind all that the inner writer has got
pub due_behind : (old new : Option (List ℕ)) (before text held : List ℕ) (given : ℕ) → new ≡ old → before ≡ []
    → given ≡ 0 → held ≡ []
    → Appends (append_known old before) (append_known new (drop given text ++ held)) text
due_behind None new before text held given is none start empty =
    let P : Option (List ℕ) → Type 0 = λ o. Appends None (append_known o (drop given text ++ held)) text in
    subst P (sym is) tt
due_behind (Some old) new before text held given is none start empty =
    let P : Option (List ℕ) → Type 0 = λ o. Appends (Some (old ++ before))
    (append_known o (drop given text ++ held)) text in
    let first : drop given text ≡ text = ap (λ n. drop n text) start in
    let more : drop given text ++ held ≡ text = ap₂ (λ (xs ys : List ℕ). xs ++ ys) first empty ∙ append-nil text in
    let front : old ++ before ≡ old = ap (λ (xs : List ℕ). old ++ xs) none ∙ append-nil old in
    subst P (sym is) (ap₂ (λ (xs ys : List ℕ). xs ++ ys) (sym front) more)

-- a number that is at most one more than `taken` is at most `taken`, or just one more
cases_le_at : (count taken : ℕ) → count ≤ taken + 1 → (count ≤ taken) ⊎ (count ≡ taken + 1)
cases_le_at count taken within = elim (cases_lt taken count) [
  | inl more ↦ inr (omega arith)
  | inr less ↦ inl less
]

-- no line ends at one of the first `taken + 1` bytes behind `held`, if none does at the first `taken` and none at the
-- next one
pub begun_more : (rows : ℕ) (held bytes : List ℕ) (taken : ℕ)
    → ((count : ℕ) → 0 < count → count ≤ taken → ends_line rows (held ++ take count bytes) ≡ false)
    → ends_line rows (held ++ take (taken + 1) bytes) ≡ false
    → (count : ℕ) → 0 < count → count ≤ taken + 1 → ends_line rows (held ++ take count bytes) ≡ false
begun_more rows held bytes taken before last count some within = elim (cases_le_at count taken within) [
  | inl less ↦ before count some less
  | inr is ↦ subst (λ (n : ℕ). ends_line rows (held ++ take n bytes) ≡ false) (sym is) last
]

-- what holds anyway holds if the result is Ok
pub on_ok : {V E P : Type 0} (answer : Result V E) → P → OnOk answer P
on_ok (Ok _) holds = holds
on_ok (Err _) holds = tt

-- what each of two calls keeps, one after the other, both together keep
pub kept_on : (first second third : Option (List ℕ)) → Keeps first second → Keeps second third → Keeps first third
kept_on None second third before after = tt
kept_on (Some first) None third before after = absurd before
kept_on (Some first) (Some second) None before after = absurd after
kept_on (Some first) (Some second) (Some third) before after = after ∙ before
