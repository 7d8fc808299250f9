-- Lists of entries: lemmas on prefixes, on the entries of a session, and on the entries at places.
use Rattle.std.proofs.Common.{◌≡◌, ◌≢◌, ◌⊎◌, ℕ, zero, suc, ◌<◌, ◌≤◌, List, [], ◌∷◌, ◌++◌, length, take, drop, get_or}
use Rattle.std.proofs.Common.{refl, ap, sym, ◌∙◌, subst, inl, inr, ⊎_elim, Some, None, arith, eq-eqb, ne_eqb}
use Rattle.std.proofs.{Common.{length-append, append-nil}, lemmas.Option.{slice_get-get_or, get_or_from_slice_get}}
use Rattle.std.proofs.lemmas.List.{take_all, take-append-le, take-append-drop, length-take, Elements.filter-append}
use Rattle.std.{proofs.Math.Seq.take-append_seam, specs.Prelude.{slice_get, All}}
use mathlib.Core.Logic.{dite}
use Rattle.xa_words.specs.Entry.{Entry}
use Rattle.decision_log.specs.History.{Begins, is_of, entries_of}
use native.Mathlib.Decide.{ℕ_discrete}

-- prefixes

-- a history begins with itself (`Begins xs ys`: `xs` is a prefix of `ys`)
pub begins_itself : (xs : List Entry) → Begins xs xs
begins_itself xs = take_all (length xs) xs (omega arith)

-- each history begins with the empty one
pub begins_nothing : (xs : List Entry) → Begins [] xs
begins_nothing xs = refl

-- a history with more entries behind it begins with itself
pub begins_append : (xs ys : List Entry) → Begins xs (xs ++ ys)
begins_append xs ys = take-append_seam xs ys

-- a prefix of a history isn't longer than it
pub length_begins : (xs ys : List Entry) → Begins xs ys → length xs ≤ length ys
length_begins xs ys is = omega (arith, length-take (length xs) ys, ap length is)

-- a prefix of a history is one of a longer history
pub begins_more : (xs ys zs : List Entry) → Begins xs ys → Begins xs (ys ++ zs)
begins_more xs ys zs is = take-append-le (length xs) ys zs (length_begins xs ys is) ∙ is

-- a history is a prefix of it and what is behind that
pub behind : (xs ys : List Entry) → Begins xs ys → xs ++ drop (length xs) ys ≡ ys
behind xs ys is = ap (λ front. front ++ drop (length xs) ys) (sym is) ∙ take-append-drop (length xs) ys

-- a prefix of a prefix is a prefix
pub begins_through : (xs ys zs : List Entry) → Begins xs ys → Begins ys zs → Begins xs zs
begins_through xs ys zs xy yz =
    subst (λ list. Begins xs list) (behind ys zs yz) (begins_more xs ys (drop (length ys) zs) xy)

-- a prefix as long as the history is the history
pub begins_same : (xs ys : List Entry) → Begins xs ys → length ys ≤ length xs → xs ≡ ys
begins_same xs ys is long = sym is ∙ take_all (length xs) ys long

-- of two prefixes of one list the shorter begins the longer
pub begins_between : (xs ys zs : List Entry) → Begins xs zs → Begins ys zs → length xs ≤ length ys → Begins xs ys
begins_between xs ys zs xz yz short =
    sym (take-append-le (length xs) ys (drop (length ys) zs) short) ∙ ap (take (length xs)) (behind ys zs yz) ∙ xz

-- what stands at a place still stands there in a longer history
pub get_append : (xs ys : List Entry) (place : ℕ) (entry : Entry) → slice_get xs place ≡ Some entry
    → slice_get (xs ++ ys) place ≡ Some entry
get_append [] ys place entry is = cc
get_append (x ∷ xs) ys zero entry is = is
get_append (x ∷ xs) ys (suc place) entry is = get_append xs ys place entry is

-- what stands at a place of a prefix stands there in the history
pub get_begins : (xs ys : List Entry) (place : ℕ) (entry : Entry) → Begins xs ys → slice_get xs place ≡ Some entry
    → slice_get ys place ≡ Some entry
get_begins xs ys place entry begins is =
    subst (λ list. slice_get list place ≡ Some entry) (behind xs ys begins)
    (get_append xs (drop (length xs) ys) place entry is)

-- below the length there is an entry
pub there : (xs : List Entry) (place : ℕ) → place < length xs → (entry : Entry) × (slice_get xs place ≡ Some entry)
there [] place below = absurd (omega arith)
there (x ∷ xs) zero below = (x, refl)
there (x ∷ xs) (suc place) below = there xs place (omega arith)

-- if two entries are equal as found (`Some`), they are equal
pub some_injective : (a b : Entry) → Some a ≡ Some b → a ≡ b
some_injective a b is = cc

-- an entry of a list with one more at its end is one of the list, at its old place, or the last
pub get_last : (xs : List Entry) (last : Entry) (place : ℕ) (entry : Entry)
    → slice_get (xs ++ last ∷ []) place ≡ Some entry
    → (slice_get xs place ≡ Some entry) ⊎ ((place ≡ length xs) × (last ≡ entry))
get_last [] last zero entry is = inr (refl, some_injective last entry is)
get_last [] last (suc place) entry is = absurd (never is)
  where
    never : None ≡ Some entry → ⊥
    never is = cc
get_last (x ∷ xs) last zero entry is = inl is
get_last (x ∷ xs) last (suc place) entry is =
    ⊎_elim (λ h. inl h) (λ h. inr (ap suc h.0, h.1)) (get_last xs last place entry is)

-- what holds of each entry by its place holds of all
pub all_from_places : (P : Entry → Type 0) (xs : List Entry)
    → ((place : ℕ) (entry : Entry) → slice_get xs place ≡ Some entry → P entry) → All P xs
all_from_places P xs each place other below = each place (get_or xs place other) (slice_get-get_or xs place other below)

-- the entries of a session

-- a session's entries of two parts of a history are those of the first and then those of the second
pub own_append : (number : ℕ) (xs ys : List Entry) → entries_of number (xs ++ ys) ≡ entries_of number xs
    ++ entries_of number ys
own_append number xs ys = filter-append (is_of number) xs ys

-- an entry of the session behind a history comes behind the session's entries of that history
pub own_last : (number : ℕ) (xs : List Entry) (entry : Entry) → entry.session ≡ number
    → entries_of number (xs ++ entry ∷ []) ≡ entries_of number xs ++ entry ∷ []
own_last number xs entry own =
    own_append number xs (entry ∷ []) ∙ ap (λ rest. entries_of number xs ++ rest)
    (rw (eq-eqb entry.session number own) refl)

-- an entry of another session behind a history changes nothing about a session's own entries
pub own_other : (number : ℕ) (xs : List Entry) (entry : Entry) → entry.session ≢ number
    → entries_of number (xs ++ entry ∷ []) ≡ entries_of number xs
own_other number xs entry other =
    own_append number xs (entry ∷ []) ∙ ap (λ rest. entries_of number xs ++ rest) (nothing entry other)
    ∙ append-nil (entries_of number xs)
  where
    nothing : (entry : Entry) → entry.session ≢ number → entries_of number (entry ∷ []) ≡ []
    nothing entry other = rw (ne_eqb entry.session number other) refl

-- if more entries make a history no longer, they are none
pub nothing_left : (xs ys : List Entry) → length (xs ++ ys) ≡ length xs → ys ≡ []
nothing_left xs [] is = refl
nothing_left xs (y ∷ ys) is = absurd (omega (arith, length-append xs (y ∷ ys)))

-- of three histories, each a prefix of the next, the second has the same entries of a session as the others, if the
-- first and the third have the same
pub own_between : (number : ℕ) (xs ys zs mine : List Entry) → Begins xs ys → Begins ys zs → entries_of number xs ≡ mine
    → entries_of number zs ≡ mine
    → entries_of number ys ≡ mine
own_between number xs ys zs mine xy yz own_x own_z =
    let r = drop (length xs) ys in
    let t = drop (length ys) zs in
    let whole_y : entries_of number ys ≡ entries_of number xs ++ entries_of number r =
    ap (entries_of number) (sym (behind xs ys xy)) ∙ own_append number xs r in
    let whole_z : entries_of number zs ≡ entries_of number ys ++ entries_of number t =
    ap (entries_of number) (sym (behind ys zs yz)) ∙ own_append number ys t in
    let none : entries_of number r ≡ [] =
    nothing_left (entries_of number xs) (entries_of number r)
    (omega (
      arith,
      ap length whole_y,
      ap length whole_z,
      ap length own_x,
      ap length own_z,
      length-append (entries_of number ys) (entries_of number t),
      length-append (entries_of number xs) (entries_of number r),
    )) in
    whole_y ∙ ap (λ rest. entries_of number xs ++ rest) none ∙ append-nil (entries_of number xs) ∙ own_x

-- a number that no entry has has no entries
pub own_none : (number : ℕ) (xs : List Entry) → ((place : ℕ) (entry : Entry) → slice_get xs place ≡ Some entry
    → entry.session ≢ number)
    → entries_of number xs ≡ []
own_none number [] none = refl
own_none number (x ∷ xs) none =
    rw (ne_eqb x.session number (none 0 x refl)) (own_none number xs (λ place entry is. none (suc place) entry is))

-- the entries at places

-- the prefix that is one entry longer is the prefix with the next entry behind it
pub take_next : (xs : List Entry) (row : ℕ) (entry : Entry) → slice_get xs row ≡ Some entry
    → take (suc row) xs ≡ take row xs ++ entry ∷ []
take_next [] row entry is = cc
take_next (x ∷ xs) zero entry is = ap (λ e. e ∷ []) (some_injective x entry is)
take_next (x ∷ xs) (suc row) entry is = ap (λ rest. x ∷ rest) (take_next xs row entry is)

-- within a history there is an entry
pub entry_at : (xs : List Entry) (place : ℕ) → place < length xs → (entry : Entry) × (slice_get xs place ≡ Some entry)
entry_at [] place below = absurd (omega arith)
entry_at (x ∷ xs) zero below = (x, refl)
entry_at (x ∷ xs) (suc place) below = entry_at xs place (omega (arith, below))

-- the entry read at a place is that which stands there
pub entry_is : (xs : List Entry) (place : ℕ) (entry : Entry) → slice_get xs place ≡ Some entry
    → get_or xs place entry ≡ entry
entry_is xs place entry is = get_or_from_slice_get xs place entry entry is

-- entries of a session behind a prefix that has all of them

-- if a session has no entry, the first isn't its own
first_own : (number : ℕ) (x : Entry) (xs : List Entry) → x.session ≡ number → entries_of number (x ∷ xs) ≡ [] → ⊥
first_own number x xs mine none =
    let head : entries_of number (x ∷ xs) ≡ x ∷ entries_of number xs = rw (eq-eqb x.session number mine) refl in
    omega (arith, ap length head, ap length none)

-- if a session has no entry, and the first is another's, it has none in the rest
first_other : (number : ℕ) (x : Entry) (xs : List Entry) → x.session ≢ number → entries_of number (x ∷ xs) ≡ []
    → entries_of number xs ≡ []
first_other number x xs other none =
    let same : entries_of number (x ∷ xs) ≡ entries_of number xs = rw (ne_eqb x.session number other) refl in
    sym same ∙ none

-- if a session has no entry, none at any place is its own
no_own : (number : ℕ) (xs : List Entry) (row : ℕ) (entry : Entry) → entries_of number xs ≡ []
    → slice_get xs row ≡ Some entry → entry.session ≢ number
no_own number [] row entry none is own = absurd (never entry is)
  where
    never : (entry : Entry) → None ≡ Some entry → ⊥
    never entry is = cc
no_own number (x ∷ xs) zero entry none is own =
    first_own number x xs (ap (λ e. e.session) (some_injective x entry is) ∙ own) none
no_own number (x ∷ xs) (suc row) entry none is own =
    dite (ℕ_discrete x.session number) (λ mine. first_own number x xs mine none)
    (λ other. no_own number xs row entry (first_other number x xs other none) is own)

-- past a prefix stands an entry of the part behind it
get_behind : (xs ys : List Entry) (row : ℕ) (entry : Entry) → length xs ≤ row → slice_get (xs ++ ys) row ≡ Some entry
    → (k : ℕ) × (slice_get ys k ≡ Some entry)
get_behind [] ys row entry long is = (row, is)
get_behind (x ∷ xs) ys zero entry long is = absurd (omega arith)
get_behind (x ∷ xs) ys (suc row) entry long is = get_behind xs ys row entry (omega arith) is

-- if all entries of a session were seen, what stands behind what was seen is another session's
pub later_other : (number : ℕ) (seen log mine : List Entry) (row : ℕ) (entry : Entry) → Begins seen log
    → entries_of number log ≡ mine
    → entries_of number seen ≡ mine
    → length seen ≤ row → slice_get log row ≡ Some entry → entry.session ≢ number
later_other number seen log mine row entry begins own part long is =
    let rest = drop (length seen) log in
    let whole = behind seen log begins in
    let parts : entries_of number log ≡ entries_of number seen ++ entries_of number rest =
    ap (entries_of number) (sym whole) ∙ own_append number seen rest in
    let none : entries_of number rest ≡ [] =
    nothing_left (entries_of number seen) (entries_of number rest)
    (omega (arith, ap length parts, ap length own, ap length part)) in
    let t = get_behind seen rest row entry long (subst (λ list. slice_get list row ≡ Some entry) (sym whole) is) in
    no_own number rest t.0 entry none t.1
