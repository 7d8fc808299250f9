-- Texts of two heads stand as the heads do; of one head, where either ends within it, as their lengths do.
use Rattle.std.proofs.Common.{◌≡◌, ℕ, zero, suc, ◌+◌, ◌*◌, ◌<◌, ◌≤◌, List, [], ◌∷◌, length, drop, get_or, refl, ap, sym}
use Rattle.std.proofs.{Common.{min, ◌∙◌, ◌⊎◌, inl, inr, arith}, Math.Nat.{mul-le-mul_right, suc-mul}}
use Rattle.std.specs.{Cmp.{nat_cmp_is, Lexicographic.slice_cmp}, Ordering.{nat_cmp, ordering_then}}
use Rattle.std.specs.declared.cmp.Ordering.{Ordering}
use Rattle.std.specs.declared.cmp.Ordering.TheVariants.{Less, Equal, Greater}
use mathlib.Core.Logic.{dite}
use Rattle.xa_xid.specs.Head.{head_of}
use native.Mathlib.Decide.{dec_lt}

-- how much a byte counts in front of so many others
abbrev weight : ℕ → ℕ
weight zero = 1
weight (suc n) = 256 * weight n

-- the first so many bytes as one number, byte by byte
abbrev spelled : ℕ → List ℕ → ℕ
spelled zero text = 0
spelled (suc n) [] = 0
spelled (suc n) (x ∷ xs) = x * weight n + spelled n xs

-- each element is a byte, below 256
abbrev pub Small : List ℕ → Type 0
Small text = (i : ℕ) → get_or text i 0 < 256

-- the elements after the first are bytes, if all are
tail_small : (x : ℕ) (xs : List ℕ) → Small (x ∷ xs) → Small xs
tail_small x xs small i = small (suc i)

-- a power of 256 isn't 0
has_weight : (n : ℕ) → 0 < weight n
has_weight zero = omega arith
has_weight (suc n) = omega (arith, has_weight n)

-- the number that n bytes spell is below 256^n
fits : (n : ℕ) (text : List ℕ) → Small text → spelled n text < weight n
fits zero text small = omega arith
fits (suc n) [] small = omega (arith, has_weight n)
fits (suc n) (x ∷ xs) small =
    let first : x * weight n ≤ 255 * weight n = mul-le-mul_right (weight n) (omega (arith, small 0)) in
    omega (arith, first, fits n xs (tail_small x xs small))

-- the lesser first byte makes the lesser number
apart : (n x y s t : ℕ) → x < y → s < weight n → x * weight n + s < y * weight n + t
apart n x y s t less below =
    let more : suc x * weight n ≤ y * weight n = mul-le-mul_right (weight n) less in
    omega (arith, more, suc-mul x (weight n), below)

-- if A follows whichever of two bytes is less, and also if they are equal, A holds
split : (x y : ℕ) (A : Type 0) → (x < y → A) → (y < x → A) → (x ≡ y → A) → A
split x y A less more same =
    dite (dec_lt x y) less (λ not_less. dite (dec_lt y x) more (λ not_more. same (omega (arith, not_less, not_more))))

-- texts with the same first byte compare as their rests do
same_first : (x y : ℕ) (xs ys : List ℕ) → x ≡ y → slice_cmp nat_cmp (x ∷ xs) (y ∷ ys) ≡ slice_cmp nat_cmp xs ys
same_first x y xs ys same =
    ap (λ order. ordering_then order (slice_cmp nat_cmp xs ys)) (sym (nat_cmp_is x y Equal same))

-- if the first n bytes spell a smaller number, the text comes before
lesser : (n : ℕ) (left right : List ℕ) → Small left → Small right → spelled n left < spelled n right
    → slice_cmp nat_cmp left right ≡ Less
lesser zero left right l r h = absurd (omega (arith, h))
lesser (suc n) [] [] l r h = absurd (omega (arith, h))
lesser (suc n) [] (y ∷ ys) l r h = refl
lesser (suc n) (x ∷ xs) [] l r h = absurd (omega (arith, h))
lesser (suc n) (x ∷ xs) (y ∷ ys) l r h =
    split x y (slice_cmp nat_cmp (x ∷ xs) (y ∷ ys) ≡ Less)
    (λ less. ap (λ order. ordering_then order (slice_cmp nat_cmp xs ys)) (sym (nat_cmp_is x y Less less)))
    (λ more. absurd (omega (arith, h, apart n y x (spelled n ys) (spelled n xs) more (fits n ys (tail_small y ys r)))))
    (λ same. same_first x y xs ys same
    ∙ lesser n xs ys (tail_small x xs l) (tail_small y ys r) (omega (arith, h, ap (λ z. z * weight n) same)))

-- if the first n bytes of a text spell a greater number than those of another, the text comes behind
greater : (n : ℕ) (left right : List ℕ) → Small left → Small right → spelled n right < spelled n left
    → slice_cmp nat_cmp left right ≡ Greater
greater zero left right l r h = absurd (omega (arith, h))
greater (suc n) [] [] l r h = absurd (omega (arith, h))
greater (suc n) [] (y ∷ ys) l r h = absurd (omega (arith, h))
greater (suc n) (x ∷ xs) [] l r h = refl
greater (suc n) (x ∷ xs) (y ∷ ys) l r h =
    split x y (slice_cmp nat_cmp (x ∷ xs) (y ∷ ys) ≡ Greater)
    (λ less. absurd (omega (arith, h, apart n x y (spelled n xs) (spelled n ys) less (fits n xs (tail_small x xs l)))))
    (λ more. ap (λ order. ordering_then order (slice_cmp nat_cmp xs ys)) (sym (nat_cmp_is x y Greater more)))
    (λ same. same_first x y xs ys same
    ∙ greater n xs ys (tail_small x xs l) (tail_small y ys r) (omega (arith, h, ap (λ z. z * weight n) same)))

-- two lengths stand as those of one more do
raised : (order : Ordering) (m n : ℕ) → order ≡ nat_cmp m n → order ≡ nat_cmp (suc m) (suc n)
raised order m n is =
    split m n (order ≡ nat_cmp (suc m) (suc n))
    (λ less. is ∙ sym (nat_cmp_is m n Less less) ∙ nat_cmp_is (suc m) (suc n) Less (omega (arith, less)))
    (λ more. is ∙ sym (nat_cmp_is m n Greater more) ∙ nat_cmp_is (suc m) (suc n) Greater (omega (arith, more)))
    (λ same. is ∙ sym (nat_cmp_is m n Equal same) ∙ nat_cmp_is (suc m) (suc n) Equal (ap suc same))

-- if the first n bytes of two texts spell the same number and one text has no more than n, the texts compare as their
-- lengths do
level : (n : ℕ) (left right : List ℕ) → Small left → Small right → spelled n left ≡ spelled n right
    → (length left ≤ n) ⊎ (length right ≤ n)
    → slice_cmp nat_cmp left right ≡ nat_cmp (length left) (length right)
level n [] [] l r h ends = nat_cmp_is 0 0 Equal refl
level n [] (y ∷ ys) l r h ends = nat_cmp_is 0 (suc (length ys)) Less (omega arith)
level n (x ∷ xs) [] l r h ends = nat_cmp_is (suc (length xs)) 0 Greater (omega arith)
level zero (x ∷ xs) (y ∷ ys) l r h (inl a) = absurd (omega (arith, a))
level zero (x ∷ xs) (y ∷ ys) l r h (inr a) = absurd (omega (arith, a))
level (suc n) (x ∷ xs) (y ∷ ys) l r h ends =
    split x y (slice_cmp nat_cmp (x ∷ xs) (y ∷ ys) ≡ nat_cmp (suc (length xs)) (suc (length ys)))
    (λ less. absurd (omega (arith, h, apart n x y (spelled n xs) (spelled n ys) less (fits n xs (tail_small x xs l)))))
    (λ more. absurd (omega (arith, h, apart n y x (spelled n ys) (spelled n xs) more (fits n ys (tail_small y ys r)))))
    (λ same. same_first x y xs ys same
    ∙ raised (slice_cmp nat_cmp xs ys) (length xs) (length ys)
    (level n xs ys (tail_small x xs l) (tail_small y ys r) (omega (arith, h, ap (λ z. z * weight n) same))
    (shorter ends)))
  where
    shorter : (suc (length xs) ≤ suc n) ⊎ (suc (length ys) ≤ suc n) → (length xs ≤ n) ⊎ (length ys ≤ n)
    shorter (inl a) = inl (omega (arith, a))
    shorter (inr a) = inr (omega (arith, a))

-- if the first n bytes of two texts spell the same number and neither text is shorter, the texts compare as the rests
-- behind these bytes do
beyond : (n : ℕ) (left right : List ℕ) → Small left → Small right → spelled n left ≡ spelled n right
    → n ≤ length left → n ≤ length right
    → slice_cmp nat_cmp left right ≡ slice_cmp nat_cmp (drop n left) (drop n right)
beyond zero left right l r h a b = refl
beyond (suc n) [] right l r h a b = absurd (omega (arith, a))
beyond (suc n) (x ∷ xs) [] l r h a b = absurd (omega (arith, b))
beyond (suc n) (x ∷ xs) (y ∷ ys) l r h a b =
    split x y (slice_cmp nat_cmp (x ∷ xs) (y ∷ ys) ≡ slice_cmp nat_cmp (drop n xs) (drop n ys))
    (λ less. absurd (omega (arith, h, apart n x y (spelled n xs) (spelled n ys) less (fits n xs (tail_small x xs l)))))
    (λ more. absurd (omega (arith, h, apart n y x (spelled n ys) (spelled n xs) more (fits n ys (tail_small y ys r)))))
    (λ same. same_first x y xs ys same
    ∙ beyond n xs ys (tail_small x xs l) (tail_small y ys r) (omega (arith, h, ap (λ z. z * weight n) same))
    (omega (arith, a)) (omega (arith, b)))

-- two texts compare as their rests from the place i on do
abbrev pub AtRests : List ℕ → List ℕ → ℕ → Type 0
AtRests left right i = slice_cmp nat_cmp (drop i left) (drop i right) ≡ slice_cmp nat_cmp left right

-- where one text ends and the other hasn't differed, the lengths decide
pub rest_level : (i : ℕ) (xs ys : List ℕ) → i ≡ min (length xs) (length ys)
    → slice_cmp nat_cmp (drop i xs) (drop i ys) ≡ nat_cmp (length xs) (length ys)
rest_level zero [] [] h = nat_cmp_is 0 0 Equal refl
rest_level zero [] (y ∷ ys) h = nat_cmp_is 0 (suc (length ys)) Less (omega arith)
rest_level zero (x ∷ xs) [] h = nat_cmp_is (suc (length xs)) 0 Greater (omega arith)
rest_level zero (x ∷ xs) (y ∷ ys) h = absurd (omega (arith, h))
rest_level (suc i) [] ys h = absurd (omega (arith, h))
rest_level (suc i) (x ∷ xs) [] h = absurd (omega (arith, h))
rest_level (suc i) (x ∷ xs) (y ∷ ys) h =
    raised (slice_cmp nat_cmp (drop i xs) (drop i ys)) (length xs) (length ys) (rest_level i xs ys (omega (arith, h)))

-- a head is the number of its eight bytes
head_is : (text : List ℕ) → head_of text ≡ spelled 8 text
unfolding head_of
head_is [] = refl
head_is (a ∷ []) = omega arith
head_is (a ∷ b ∷ []) = omega arith
head_is (a ∷ b ∷ c ∷ []) = omega arith
head_is (a ∷ b ∷ c ∷ d ∷ []) = omega arith
head_is (a ∷ b ∷ c ∷ d ∷ e ∷ []) = omega arith
head_is (a ∷ b ∷ c ∷ d ∷ e ∷ f ∷ []) = omega arith
head_is (a ∷ b ∷ c ∷ d ∷ e ∷ f ∷ g ∷ []) = omega arith
head_is (a ∷ b ∷ c ∷ d ∷ e ∷ f ∷ g ∷ h ∷ rest) = omega arith

-- if the first 8 bytes, compared as one number, are less, the text comes before
pub head_less : (left right : List ℕ) → Small left → Small right → head_of left < head_of right
    → slice_cmp nat_cmp left right ≡ Less
head_less left right l r h = lesser 8 left right l r (omega (arith, h, head_is left, head_is right))

-- a text whose head, the number of its first 8 bytes, is greater comes behind
pub head_greater : (left right : List ℕ) → Small left → Small right → head_of right < head_of left
    → slice_cmp nat_cmp left right ≡ Greater
head_greater left right l r h = greater 8 left right l r (omega (arith, h, head_is left, head_is right))

-- if two texts have the same head and one has at most 8 bytes, they compare as their lengths do
pub head_level : (left right : List ℕ) → Small left → Small right → head_of left ≡ head_of right
    → (length left ≤ 8) ⊎ (length right ≤ 8)
    → slice_cmp nat_cmp left right ≡ nat_cmp (length left) (length right)
head_level left right l r h = level 8 left right l r (sym (head_is left) ∙ h ∙ head_is right)

-- if two texts have the same head and neither has fewer than 8 bytes, they compare as their rests behind these do
pub head_beyond : (left right : List ℕ) → Small left → Small right → head_of left ≡ head_of right
    → 8 ≤ length left → 8 ≤ length right
    → slice_cmp nat_cmp left right ≡ slice_cmp nat_cmp (drop 8 left) (drop 8 right)
head_beyond left right l r h a b = beyond 8 left right l r (sym (head_is left) ∙ h ∙ head_is right) a b
