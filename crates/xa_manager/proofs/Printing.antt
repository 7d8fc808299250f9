-- Printing lists one element after another.
use Rattle.std.proofs.Common.{◌≡◌, ℕ, ◌+◌, ◌<◌, ◌⊎◌, inl, inr, Bool, true, false, cond, List, [], ◌∷◌, ◌++◌, Result}
use Rattle.std.proofs.Common.{length, get_or, take, sym, ◌∙◌, ap, append_assoc, append-nil, add-zero, codes, decimal}
use Rattle.std.proofs.{Common.arith, lemmas.{List.{take_more, get_or_default, length-take}, Bool.Decides.nat_tests}}
use Rattle.std.proofs.lemmas.Grind.{common_steps}
use Rattle.xa_server.specs.declared.reply.Reply.{Reply}
use Rattle.xa_session.specs.declared.fault.Fault.{Fault}
use Rattle.xa_coordinator.specs.declared.decisions.Decision.{Decision}
use Rattle.xa_manager.specs.Texts.{stores_text, store_text, stores_shown_text, number_text, numbers_text, stands_as}

-- the step of a loop that makes a text longer by each element of a list: once the text of the next one is appended,
-- that of the first i + 1 is written
grown : {A : Type 0} (all : List A → List ℕ) (one : List ℕ) (xs : List A) (i : ℕ) (x : A) (begin before now : List ℕ)
    → i < length xs → x ≡ get_or xs i x
    → all (take i xs ++ x ∷ []) ≡ all (take i xs) ++ one → before ≡ begin ++ all (take i xs) → now ≡ before ++ one
    → now ≡ begin ++ all (take (i + 1) xs)
grown all one xs i x begin before now within is more was step = grind (arith, append_assoc, take_more)

-- the text of several stores' numbers and one more is that of the several, and then a space and the one
stores_text-more : (xs : List ℕ) (x : ℕ) → stores_text (xs ++ x ∷ []) ≡ stores_text xs ++ (codes " " ++ decimal x)
stores_text-more [] x = append-nil (codes " " ++ decimal x)
stores_text-more (y ∷ ys) x = grind (arith, append_assoc, decimal, stores_text-more ys x)

-- the step of the loop that prints the numbers of stores: one number more is written
pub stores_grown : (xs : List ℕ) (i x : ℕ) (begin before now : List ℕ) → i < length xs → x ≡ get_or xs i x
    → before ≡ begin ++ stores_text (take i xs)
    → now ≡ before ++ (codes " " ++ decimal x)
    → now ≡ begin ++ stores_text (take (i + 1) xs)
stores_grown xs i x begin before now within is was step =
    grind (arith, common_steps, nat_tests, grown, stores_text-more)

-- the text of several stores' answers and of one more is that of the several, and then the one's, under the number
-- that is its place
shown-more : (n : ℕ) (xs : List (Result Reply Fault)) (x : Result Reply Fault)
    → stores_shown_text n (xs ++ x ∷ []) ≡ stores_shown_text n xs ++ store_text (n + length xs) x
shown-more n [] x = append-nil (store_text n x) ∙ ap (λ k. store_text k x) (sym (add-zero n))
shown-more n (y ∷ ys) x = grind (arith, append_assoc, shown-more (n + 1) ys x)

-- the step of the loop that prints the stores' answers: one answer more is written
pub shown_grown : (xs : List (Result Reply Fault)) (i : ℕ) (x : Result Reply Fault) (begin before now : List ℕ)
    → i < length xs → x ≡ get_or xs i x
    → before ≡ begin ++ stores_shown_text 0 (take i xs) → now ≡ before ++ store_text i x
    → now ≡ begin ++ stores_shown_text 0 (take (i + 1) xs)
shown_grown xs i x begin before now within is was step =
    grind (arith, common_steps, nat_tests, grown, length-take, shown-more)

-- the text of several decisions' numbers and of one more is that of the several, and then the one's number, if it is
-- the wanted decision
numbers-more : (wanted : Decision) (n : ℕ) (xs : List Decision) (x : Decision)
    → numbers_text wanted n (xs ++ x ∷ []) ≡ numbers_text wanted n xs ++ number_text wanted (n + length xs) x
numbers-more wanted n [] x = append-nil (number_text wanted n x) ∙ ap (λ k. number_text wanted k x) (sym (add-zero n))
numbers-more wanted n (y ∷ ys) x = grind (arith, append_assoc, numbers-more wanted (n + 1) ys x)

-- the step of the loop that prints the numbers of decisions, which begin at 1: the text of one more is written
pub numbers_grown : (wanted : Decision) (xs : List Decision) (i : ℕ) (x : Decision) (begin before now : List ℕ)
    → i < length xs → x ≡ get_or xs i x
    → before ≡ begin ++ numbers_text wanted 1 (take i xs) → now ≡ before ++ number_text wanted (i + 1) x
    → now ≡ begin ++ numbers_text wanted 1 (take (i + 1) xs)
numbers_grown wanted xs i x begin before now within is was step =
    grind (arith, common_steps, nat_tests, grown, length-take, numbers-more)

-- the step of the loop that prints the numbers of decisions: a number is written if it stands as wanted, and nothing
-- is if it doesn't
pub numbers_grown_if : (wanted : Decision) (xs : List Decision) (i : ℕ) (d : Decision) (stands : Bool)
    (begin before now : List ℕ) → i < length xs
    → stands ≡ stands_as wanted (get_or xs i d)
    → before ≡ begin ++ numbers_text wanted 1 (take i xs)
    → ((stands ≡ true) × (now ≡ before ++ (codes " " ++ decimal (i + 1)))) ⊎ ((stands ≡ false) × (now ≡ before))
    → now ≡ begin ++ numbers_text wanted 1 (take (i + 1) xs)
numbers_grown_if wanted xs i d stands begin before now within is was step =
    numbers_grown wanted xs i (get_or xs i d) begin before now within (get_or_default xs i d (get_or xs i d) within) was
    (by (stands_as wanted (get_or xs i d)) is step)
  where
    by : (b : Bool) → stands ≡ b → ((stands ≡ true) × (now ≡ before ++ (codes " " ++ decimal (i + 1))))
        ⊎ ((stands ≡ false) × (now ≡ before))
        → now ≡ before ++ cond b (codes " " ++ decimal (i + 1)) []
    by true so (inl told) = told.1
    by true so (inr silent) = let no = silent.0 in absurd (cc)
    by false so (inl told) = let yes = told.0 in absurd (cc)
    by false so (inr silent) = silent.1 ∙ sym (append-nil before)

-- three words, each with its count, appended one after another, are appended as one text
pub three_grown : (begin first second now a b c d e f : List ℕ) → first ≡ begin ++ (a ++ b) → second ≡ first ++ (c ++ d)
    → now ≡ second ++ (e ++ f)
    → now ≡ begin ++ (a ++ b ++ c ++ d ++ e ++ f)
three_grown begin first second now a b c d e f p q r = grind (arith, append_assoc)
