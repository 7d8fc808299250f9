-- Whether a session is idle, has an open call or is lost: what events say, and what is kept in a list, agree.
use Rattle.std.proofs.Common.{◌≡◌, ◌≢◌, ℕ, zero, suc, ◌<◌, ◌==◌, Bool, true, false, if◌then◌else◌, Some, None, List, []}
use Rattle.std.proofs.Common.{◌∷◌, ◌++◌, length, replicate, slice_get, slice_set, refl, ap, arith}
use Rattle.std.proofs.lemmas.{Bool.Decides.nat_tests, Option.{none-some, slice_get_within}}
use Rattle.xa_record.specs.{declared.presence.Presence.{Presence, TheVariants.{Idle, Lost}}, Lines.{Told, Leaves}}
use Rattle.xa_record.specs.Reading.{NumberedEvent, session_of, presence_after, cause_of}
use Rattle.xa_record.specs.Records.{presence_then, presence_from, presence_in, cause_next, Fits}

-- after an element was set, it is what was set
set_same : {A : Type 0} (xs : List A) (place : ℕ) (x : A) → place < length xs
    → slice_get (slice_set xs place x) place ≡ Some x
set_same [] place x below = absurd (omega arith)
set_same (y ∷ ys) zero x below = refl
set_same (y ∷ ys) (suc place) x below = set_same ys place x (omega arith)

-- setting one element of a list leaves the others
set_other : {A : Type 0} (xs : List A) (place other : ℕ) (x : A) → other ≢ place
    → slice_get (slice_set xs place x) other ≡ slice_get xs other
set_other [] place other x apart = refl
set_other (y ∷ ys) zero zero x apart = absurd (apart refl)
set_other (y ∷ ys) zero (suc other) x apart = refl
set_other (y ∷ ys) (suc place) zero x apart = refl
set_other (y ∷ ys) (suc place) (suc other) x apart = set_other ys place other x (λ same. apart (ap suc same))

-- each element of a repeated one is that one
replicated : {A : Type 0} (count place : ℕ) (x : A) → place < count → slice_get (replicate count x) place ≡ Some x
replicated zero place x within = absurd (omega arith)
replicated (suc count) zero x within = refl
replicated (suc count) (suc place) x within = replicated count place x (omega arith)

-- numbers that test as equal are equal
tested : (m n : ℕ) → (m == n) ≡ true → m ≡ n
tested m n is = grind (arith, nat_tests)

-- numbers that test as unequal are different
apart_test : (m n : ℕ) → (m == n) ≡ false → m ≢ n
apart_test m n is = grind (arith, nat_tests)

-- a session whose client has gone stays lost, whatever else is said
lost-stays : (session : ℕ) (list : List NumberedEvent) → presence_from session Lost list ≡ Lost
unfolding presence_from
lost-stays session [] = refl
lost-stays session (one ∷ more) = by (session_of one.told == session) (lost-stays session more)
  where
    by : (b : Bool) → presence_from session Lost more ≡ Lost
        → presence_from session (if b then presence_then Lost one.told else Lost) more ≡ Lost
    by true later = later
    by false later = later

-- a session's presence after two lists of events is the one after the second, begun with what the first leaves
from-append : (session : ℕ) (presence : Presence) (xs ys : List NumberedEvent)
    → presence_from session presence (xs ++ ys) ≡ presence_from session (presence_from session presence xs) ys
unfolding presence_from
from-append session presence [] ys = refl
from-append session presence (one ∷ xs) ys =
    from-append session (if session_of one.told == session then presence_then presence one.told else presence) xs ys

-- an event of the session in front of others changes its presence as `presence_then` says
own : (session : ℕ) (presence : Presence) (one : NumberedEvent) (more : List NumberedEvent)
    → (session_of one.told == session) ≡ true
    → presence_from session presence (one ∷ more) ≡ presence_from session (presence_then presence one.told) more
unfolding presence_from
own session presence one more is = cc

-- an event of another session doesn't change a session's presence
other : (session : ℕ) (presence : Presence) (one : NumberedEvent) (more : List NumberedEvent)
    → (session_of one.told == session) ≡ false
    → presence_from session presence (one ∷ more) ≡ presence_from session presence more
unfolding presence_from
other session presence one more is = cc

-- without an event the presence stays
none-from : (session : ℕ) (presence : Presence) → presence_from session presence [] ≡ presence
unfolding presence_from
none-from session presence = refl

-- an event that can happen leaves its session as `presence_after` says
then-after : (presence : Presence) (told : Told) → cause_of (Some presence) told ≡ None
    → presence_then presence told ≡ presence_after told
then-after presence told fits = grind (arith, none-some)

-- after its client has gone a session is lost, whatever it was
then-leaves : (presence : Presence) (session : ℕ) → presence_then presence (Leaves session) ≡ Lost
then-leaves presence session = grind (arith)

-- the list has, at each session's number, the presence that the events say
abbrev pub Placed : List Presence → List NumberedEvent → Type 0
Placed presence list = (session : ℕ) → session < 17 → slice_get presence session ≡ Some (presence_in session list)

-- before the first event every session is idle, and so says the list of 17 (place 0 is no session's)
pub placed-none : Placed (replicate 17 Idle) []
unfolding presence_from
placed-none session within = replicated 17 session Idle within

-- why an event isn't possible, or that it is, is the same by the list kept as by the events so far
pub fits-here : (presence : List Presence) (list : List NumberedEvent) (told : Told) → session_of told < 17
    → Placed presence list
    → cause_of (slice_get presence (session_of told)) told ≡ cause_next list told
fits-here presence list told within placed = grind (arith)

-- after an event that can happen, the list says the same as the events again
pub placed-next : (presence : List Presence) (list : List NumberedEvent) (number : ℕ) (told : Told)
    → session_of told < 17 → Placed presence list → Fits list told
    → Placed (slice_set presence (session_of told) (presence_after told))
    (list ++ record { number = number; told = told } ∷ [])
placed-next presence list number told within placed fits session below =
    grind (
      arith,
      apart_test,
      from-append,
      none-from,
      other,
      own,
      set_other,
      set_same,
      slice_get_within,
      tested,
      then-after,
    )

-- once a session's loss is put in at any place among the events, and set in the list, the list says what they say
pub placed-closed : (presence : List Presence) (before after : List NumberedEvent) (number session : ℕ) → session < 17
    → Placed presence (before ++ after)
    → Placed (slice_set presence session Lost) (before ++ record { number = number; told = Leaves session } ∷ after)
placed-closed presence before after number session within placed is below =
    grind (
      arith,
      apart_test,
      from-append,
      lost-stays,
      other,
      own,
      set_other,
      set_same,
      slice_get_within,
      tested,
      then-leaves,
    )
