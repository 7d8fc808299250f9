-- Sets of sessions, as they grow.
--     within_none, within_more, within_set   a set is part of itself;  of what contains a larger one;  of itself with
--                                            one more
--     apart_still, apart_next                who is outside of a set is still apart from a session;  up to a number
--     set_in, none_in, replicate_in          a session that was added;  no session is in;  each is
--     done_more, next_more, all_persistent   one more session is done;  is looked at;  the set of all sessions
use Rattle.std.proofs.Common.{◌≡◌, ◌≢◌, ◌⊎◌, ℕ, Bool, true, false, Option, Some, None, List, ◌+◌, ◌<◌, set, refl, ap}
use Rattle.std.proofs.Common.{sym, ◌∙◌, subst, inl, inr, arith, zero, suc, length, replicate}
use Rattle.std.{proofs.lemmas.{Option.{none-some, same_Some}, Bool.{cases_lt, false≢true}}, specs.Prelude.slice_get}
use Rattle.xa_judge.specs.{Explained.{Config, IsSession}, Apart.IsApartAt}
use Rattle.xa_judge.specs.Persistent.{IsIn, IsWithin, AreApartFrom, IsPersistent}
use Rattle.xa_judge.proofs.Places.{same_number, get_within, get_written, get_apart}

-- a set is part of itself
pub within_none : (all : List Bool) → IsWithin all all
within_none all = λ session is. is

-- a part of a part is a part
pub within_more : (old mid new : List Bool) → IsWithin old mid → IsWithin mid new → IsWithin old new
within_more old mid new first then = λ session is. then session (first session is)

-- a set is part of itself with one session more
pub within_set : (all : List Bool) (place : ℕ) → IsWithin all (set all place true)
within_set all place = λ session is. elim (same_number place session) [
  | inl e ↦ subst (λ n. slice_get (set all place true) n ≡ Some true) e
      (get_written all place true true (subst (IsIn all) (sym e) is))
  | inr apart ↦ get_apart all place session true apart ∙ is
]

-- what is outside of a set is apart from a session, if that was so of a part of the set
pub apart_still : (config : Config) (old new : List Bool) (session count : ℕ) → IsWithin old new
    → AreApartFrom config old session count → AreApartFrom config new session count
apart_still config old new session count within apart = λ other below is outside.
    apart other below is (λ inside. outside (within other inside))

-- who is outside of a set is apart from a session up to a number, if that was so below it, and is so of this number
pub apart_next : (config : Config) (old new : List Bool) (session number : ℕ) → IsWithin old new
    → AreApartFrom config old session number
    → (IsSession number → (IsIn new number → ⊥) → IsApartAt config number session)
    → AreApartFrom config new session (number + 1)
apart_next config old new session number within apart here = λ other below is outside. elim (cases_lt other number) [
  | inl less ↦ apart_still config old new session number within apart other less is outside
  | inr over ↦
      let e : number ≡ other = omega (arith, below, over) in
      subst (λ n. IsApartAt config n session) e
      (here (subst IsSession (sym e) is) (λ inside. outside (subst (IsIn new) e inside)))
]

-- who is outside of a set is apart from each session that is done, also after one more is done
pub done_more : (config : Config) (old new done : List Bool) (session : ℕ) → IsWithin old new
    → ((inside : ℕ) → IsSession inside → IsIn done inside → AreApartFrom config old inside 17)
    → AreApartFrom config new session 17
    → (inside : ℕ) → IsSession inside → IsIn (set done session true) inside → AreApartFrom config new inside 17
done_more config old new done session within before here inside is has = elim (same_number session inside) [
  | inl e ↦ subst (λ n. AreApartFrom config new n 17) e here
  | inr apart ↦ apart_still config old new inside 17 within
      (before inside is (sym (get_apart done session inside true apart) ∙ has))
]

-- a session that was added to a set is in it
pub set_in : (all : List Bool) (place : ℕ) → place < length all → IsIn (set all place true) place
set_in all place within =
    let was = get_within all place within in get_written all place was.0 true was.1

-- no session is in a list without `true`
pub none_in : (n session : ℕ) → IsIn (replicate n false) session → ⊥
none_in zero session is = none-some true is
none_in (suc n) zero is = false≢true (same_Some false true is)
none_in (suc n) (suc session) is = none_in n session is

-- each session is in a list of `true` alone
replicate_in : (n session : ℕ) → session < n → IsIn (replicate n true) session
replicate_in zero session below = absurd (omega (arith, below))
replicate_in (suc n) zero below = refl
replicate_in (suc n) (suc session) below = replicate_in n session (omega (arith, below))

-- those below a number and this one too are those below the next
pub next_more : (all done : List Bool) (number : ℕ)
    → ((session : ℕ) → session < number → IsSession session → IsIn all session → IsIn done session)
    → (IsSession number → IsIn all number → IsIn done number)
    → (session : ℕ) → session < number + 1 → IsSession session → IsIn all session → IsIn done session
next_more all done number before here session below is has = elim (cases_lt session number) [
  | inl less ↦ before session less is has
  | inr over ↦
      let e : number ≡ session = omega (arith, below, over) in
      subst (IsIn done) e (here (subst IsSession (sym e) is) (subst (IsIn all) (sym e) has))
]

-- the set of all sessions has each session, and no session is outside of it
pub all_persistent : (config : Config) (session : ℕ) → IsSession session
    → IsPersistent config session (replicate 17 true)
all_persistent config session is = record {
  has = replicate_in 17 session (omega (arith, is.1));
  apart = λ inside its has other below outer outside. absurd (outside (replicate_in 17 other below));
}
