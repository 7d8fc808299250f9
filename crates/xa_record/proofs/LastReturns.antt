-- Where the last return to a session stands, and what is put behind it.
use Rattle.std.proofs.Common.{◌≡◌, ◌⊎◌, inl, inr, ℕ, zero, suc, ◌+◌, Bool, true, false, List, [], ◌∷◌, ◌++◌, length}
use Rattle.std.proofs.{Common.{take, drop, refl, ap, ◌∙◌, subst, arith, add-one}, lemmas.Grind.common_steps}
use Rattle.std.{proofs.Math.Seq.{take-append_seam, drop-append_seam}, specs.List.insert}
use Rattle.xa_record.specs.Reading.{NumberedEvent, is_return_of, one_more, up_to_return}
use Rattle.xa_record.specs.Records.{EndsInReturn, HasNoReturn}

-- a front of no elements is empty
pub take-none : (list : List NumberedEvent) → take 0 list ≡ []
take-none list = cc

-- from place 0 on a list is the whole list
pub drop-none : (list : List NumberedEvent) → drop 0 list ≡ list
drop-none list = cc

-- the session's last return is the event before this place, and none comes after it; at place 0 it has none
abbrev pub Ends : ℕ → ℕ → List NumberedEvent → Type 0
Ends session place list =
    ((place ≡ 0) ⊎ ((front : List NumberedEvent) × (one : NumberedEvent) × (take place list ≡ front ++ one ∷ [])
    × (is_return_of session one.told ≡ true)))
    × HasNoReturn session (drop place list)

-- with one event more in front, the place of a session's last return is the one that `one_more` gives
pub ends-cons : (session : ℕ) (one : NumberedEvent) (more : List NumberedEvent) (place : ℕ) (returns : Bool)
    → is_return_of session one.told ≡ returns
    → Ends session place more → Ends session (one_more place returns) (one ∷ more)
ends-cons session one more zero true is ends =
    (inr ([], one, ap (λ (l : List NumberedEvent). one ∷ l) (take-none more), is), ends.1)
ends-cons session one more zero false is ends = (inl refl, (is, subst (HasNoReturn session) (drop-none more) ends.1))
ends-cons session one more (suc place) returns is (inl none, after) = absurd (omega (arith, none))
ends-cons session one more (suc place) returns is (inr (front, last, parts, found), after) =
    (inr (one ∷ front, last, ap (λ (l : List NumberedEvent). one ∷ l) parts, found), after)

-- the place that `up_to_return` counts is that of the last return, or 0 without one
pub ends : (session : ℕ) (list : List NumberedEvent) → Ends session (up_to_return session list) list
unfolding up_to_return
ends session [] = (inl refl, tt)
ends session (one ∷ more) =
    ends-cons session one more (up_to_return session more) (is_return_of session one.told) refl (ends session more)

-- the events before the place of the last return end in a return of the session, or there are none
pub ends-in : (session place : ℕ) (list : List NumberedEvent) → Ends session place list
    → EndsInReturn session (take place list)
ends-in session place list is = grind (arith, take-none)

-- without a return of the session among the events, `up_to_return` counts none
pub no-return-none : (session : ℕ) (list : List NumberedEvent) → HasNoReturn session list
    → up_to_return session list ≡ 0
unfolding up_to_return
no-return-none session [] none = refl
no-return-none session (one ∷ more) none = ap (one_more (up_to_return session more)) none.0
    ∙ ap (λ (n : ℕ). one_more n false) (no-return-none session more none.1)

-- once a return is found, one event more in front moves its place by one
pub one_more-some : (count : ℕ) (returns : Bool) → one_more (count + 1) returns ≡ count + 1 + 1
one_more-some count returns = rw (add-one count, add-one (suc count)) refl

-- if no return of the session is behind one of its returns, the place of the last is the number of events up to that
-- one
pub last-found : (session : ℕ) (front after : List NumberedEvent) (one : NumberedEvent)
    → is_return_of session one.told ≡ true → HasNoReturn session after
    → up_to_return session ((front ++ one ∷ []) ++ after) ≡ length front + 1
unfolding up_to_return
last-found session [] after one is none =
    ap (one_more (up_to_return session after)) is ∙ ap (λ (n : ℕ). one_more n true) (no-return-none session after none)
last-found session (first ∷ front) after one is none =
    ap (λ (n : ℕ). one_more n (is_return_of session first.told)) (last-found session front after one is none)
    ∙ one_more-some (length front) (is_return_of session first.told) ∙ omega arith

-- a list with one event behind it is longer by one
pub length-last : (front : List NumberedEvent) (one : NumberedEvent) → length (front ++ one ∷ []) ≡ length front + 1
length-last front one = grind (arith, common_steps)

-- if events end in a return of the session, or there are none, and none of its returns comes behind them,
-- `up_to_return` is their number
pub up_to-before : (session : ℕ) (before after : List NumberedEvent) → EndsInReturn session before
    → HasNoReturn session after
    → up_to_return session (before ++ after) ≡ length before
up_to-before session before after is last = grind (arith, last-found, length-last, no-return-none)

-- a loss put in at the place of the last return stands between the events up to it and those behind it
pub inserted : (session : ℕ) (before after : List NumberedEvent) (one : NumberedEvent) → EndsInReturn session before
    → HasNoReturn session after
    → insert (before ++ after) (up_to_return session (before ++ after)) one ≡ before ++ one ∷ after
inserted session before after one ends last =
    grind (arith, drop-append_seam, ends, insert, take-append_seam, up_to-before)
