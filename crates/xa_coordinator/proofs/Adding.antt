-- How many entries the session of a store has added, before and after it was used.
use Rattle.std.proofs.Common.{◌≡◌, ◌<◌, ◌≤◌, ◌+◌, ℕ, List, length, get_or, map, ap, sym, ◌∙◌, inl, inr, Result, Ok, Err}
use Rattle.std.proofs.{Common.{Some, arith, length-append}, lemmas.{List.length-map, Option.slice_get-get_or}}
use Rattle.std.specs.Prelude.{IfOk, IfErr, slice_get, slice_set}
use Rattle.xa_xid.specs.declared.statement.Statement.{Statement, TheVariants.Disconnect}
use Rattle.xa_session.specs.{Answer.entry_of, View.SessionView}
use Rattle.xa_coordinator.specs.{Agreement.AddsStatements, Parts.{added_by, added_at}, Recovery.IsDisconnected}
use Rattle.xa_coordinator.{specs.Work.MayBe, proofs.Places.get_set_same}

-- a session has at most as many entries more as statements were added
pub adds_so_many : (statements : List Statement) (old new : SessionView) → AddsStatements statements old new
    → length new.known.mine ≤ length old.known.mine + length statements
adds_so_many statements old new is =
    let whole : length new.known.mine ≡ length old.known.mine + length (map (entry_of old.known.number) statements) =
    ap length is.mine ∙ length-append old.known.mine (map (entry_of old.known.number) statements) in
    omega (arith, whole, length-map statements (entry_of old.known.number))

-- what disconnecting adds is one statement or none
at_most_one : (statements : List Statement) → MayBe Disconnect statements → length statements ≤ 1
at_most_one statements (inl none) = omega (arith, ap length none)
at_most_one statements (inr one) = omega (arith, ap length one)

-- disconnecting adds at most one entry, that of DISCONNECT
pub disconnect_adds : (old new : SessionView) → IsDisconnected old new
    → length new.known.mine ≤ length old.known.mine + 1
disconnect_adds old new is = omega (arith, adds_so_many is.statements old new is.adds, at_most_one is.statements is.is)

-- what follows from what is known after an Ok, and from what is known after an Err, holds after any result
pub either_way : {A E : Type 0} (P : Type 0) (result : Result A E) (ok : A → Type 0) (err : E → Type 0)
    → ((a : A) → ok a → P) → ((e : E) → err e → P)
    → IfOk result ok → IfErr result err → P
either_way P (Ok a) ok err from_ok from_err is_ok is_err = from_ok a is_ok
either_way P (Err e) ok err from_ok from_err is_ok is_err = from_err e is_err

module _ {S : Type 0} (view : S → SessionView) where
  -- how many entries the session of a store has added is how many of its own it knows
  added_is : (stores : List S) (store : ℕ) (session : S) → slice_get stores store ≡ Some session
      → added_at view stores store ≡ length (view session).known.mine
  unfolding added_at
  added_is stores store session is = ap (added_by view) is

  -- if a session was used and has at most `more` entries more, so many more at most are counted at its store
  pub added_next : (stores : List S) (store more : ℕ) (old session : S) → old ≡ get_or stores store old
      → store < length stores
      → length (view session).known.mine ≤ length (view old).known.mine + more →
      added_at view (slice_set stores store session) store ≤ added_at view stores store + more
  added_next stores store more old session was below few =
      let before : slice_get stores store ≡ Some old = slice_get-get_or stores store old below ∙ ap Some (sym was) in
      let after : slice_get (slice_set stores store session) store ≡ Some session =
      get_set_same stores store session below in
      omega (
        arith,
        few,
        added_is stores store old before,
        added_is
            (slice_set stores store session) store session after,
      )
