-- The places of lines.
use Rattle.std.proofs.Common.{◌≡◌, ℕ, ◌+◌, ◌==◌, ◌&&◌, Bool, not, cond, List, [], ◌∷◌, length, position, refl, ap, ◌∙◌}
use Rattle.std.{proofs.{Common.arith, lemmas.Bool.Decides.nat_tests}, specs.List.{zip, prefix_len}}
use Rattle.xa_lines.specs.Script.{is_empty_line}
use Rattle.xa_orders.specs.Orders.{Told, next_place}

-- a text of length 0 is the empty one
is_empty_length : (text : List ℕ) → (length text == 0) ≡ is_empty_line text
is_empty_length text = grind (arith, nat_tests)

-- if two tests agree on each element, as many elements at the front of a list fail one as fail the other
prefix_same : {A : Type 0} (p q : A → Bool) (xs : List A) → ((x : A) → p x ≡ q x)
    → prefix_len (λ x. not (p x)) xs ≡ prefix_len (λ x. not (q x)) xs
prefix_same p q [] same = refl
prefix_same p q (x ∷ xs) same =
    ap (λ b. cond (not b) (1 + prefix_len (λ z. not (p z)) xs) 0) (same x)
    ∙ ap (λ n. cond (not (q x)) (1 + n) 0) (prefix_same p q xs same)

-- tests that agree find the same place
position_same : {A : Type 0} (p q : A → Bool) (xs : List A) → ((x : A) → p x ≡ q x) → position p xs ≡ position q xs
position_same p q xs same = rw (prefix_same p q xs same)

-- next_place is the first place of a line of the session whose answer has length 0
pub next_is : (session : ℕ) (lines : List Told) (texts : List (List ℕ))
    → position (λ pair. (pair.0.session == session) && (length pair.1 == 0)) (zip lines texts)
    ≡ next_place session lines texts
next_is session lines texts = grind (arith, is_empty_length, position_same, zip)
