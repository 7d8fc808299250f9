-- Sessions of a store without an end that meet.
use Rattle.std.proofs.Common.{◌≡◌, ℕ, zero, suc, ◌<◌, List, [], ◌∷◌, length, get_or, set, refl, ap, sym, subst, ◌∙◌}
use Rattle.std.proofs.{Common.arith, lemmas.List.Elements.{All-get_or, AllZip-get_or, length_all_zip}}
use Rattle.std.specs.List.{All, AllZip}
use Rattle.decision_log.{specs.{Calls.MeetsFirst, History.{Begins, entries_of}}, proofs.Histories.begins_itself}
use Rattle.xa_store.{specs.Gathered.{IsTakenIn, AddsNothing}, proofs.Gathering.{meets_nobody, meets_again}}
use Rattle.xa_store.proofs.Gathering.{keeps_itself, keeps_again, meets_keeps, zip_weaker, zip_through, all_kept}
use Rattle.xa_endless.specs.declared.session.EndlessSession.{EndlessSession}
use Rattle.xa_races.{specs.Long.{known_in, Keeps, HoldsAll}, proofs.Statements.own_part}

-- what a session is after it met another one: of the same store, and with what it knows changed as `MeetsFirst` says
abbrev pub Meets : EndlessSession → EndlessSession → Type 0
Meets old new = (new.store.value ≡ old.store.value) × MeetsFirst (known_in old) (known_in new)

-- a session that does nothing has changed as `Meets` says
pub meets_itself : (session : EndlessSession) → Meets session session
meets_itself session = (refl, meets_nobody (known_in session))

-- two changes such as `Meets` allows, one after the other, are one
pub meets_through : (old now new : EndlessSession) → Meets old now → Meets now new → Meets old new
meets_through old now new s t = (t.0 ∙ s.0, meets_again (known_in old) (known_in now) (known_in new) s.1 t.1)

-- a session that does nothing keeps what it had
pub stays_itself : (session : EndlessSession) → Keeps session session
stays_itself session = record { store = refl; adds_nothing = keeps_itself (known_in session) }

-- what a session keeps through each of two calls it keeps through both
pub stays_through : (old now new : EndlessSession) → Keeps old now → Keeps now new → Keeps old new
stays_through old now new s t = grind (arith, keeps_again, known_in)

-- if all elements have changed as a transitive relation says, and then one changes so again, all still have
pub zip_set : {S : Type 0} (R : S → S → Type 0) → ((a b c : S) → R a b → R b c → R a c)
    → (before now : List S) (index : ℕ) (new d : S) → index < length now
    → AllZip R before now → R (get_or now index d) new → AllZip R before (set now index new)
zip_set R through [] [] index new d below zip step = absurd (omega arith)
zip_set R through [] (t ∷ now) index new d below zip step = absurd zip
zip_set R through (s ∷ before) [] index new d below zip step = absurd zip
zip_set R through (s ∷ before) (t ∷ now) zero new d below zip step = (through s t new zip.0 step, zip.1)
zip_set R through (s ∷ before) (t ∷ now) (suc index) new d below zip step =
    (zip.0, zip_set R through before now index new d (omega (arith, below)) zip.1 step)

-- if `Q` holds of each element after a change, `P` held of each before, where `Q` of one after gives `P` of it before
pub all_back : {S : Type 0} (R : S → S → Type 0) (P Q : S → Type 0) → ((a b : S) → R a b → Q b → P a)
    → (before now : List S) → AllZip R before now
    → All Q now → All P before
all_back R P Q back before now zip all k d below =
    let long = length_all_zip R before now zip in
    back (get_or before k d) (get_or now k d) (AllZip-get_or R before now k d d zip below)
    (All-get_or Q now k d (omega (arith, below, long)) all)

-- sessions: the others and a last one. The others meet the last, once (m1 to l1) and again (m2 to l2), and then it
-- tells them what it has seen (k3 to f3). `first`, `once`, `twice` and `told` are the others before and after each of
-- these, and `last` to `last3` the last one
module _ (first once twice told : List EndlessSession) (last last1 last2 last3 : EndlessSession)
    (m1 : AllZip Meets first once)
    (s1 : All (λ session. Begins (known_in session).seen (known_in last1).seen) once)
    (l1 : AddsNothing (known_in last) (known_in last1))
    (m2 : AllZip Meets once twice) (s2 : All (λ session. Begins (known_in session).seen (known_in last2).seen) twice)
    (w2 : All (λ session. entries_of (known_in session).number (known_in last2).seen ≡ (known_in session).mine) twice)
    (l2 : AddsNothing (known_in last1) (known_in last2)) (k3 : AllZip Keeps twice told)
    (t3 : All (λ session. Begins (known_in last3).seen (known_in session).seen) told)
    (f3 : MeetsFirst (known_in last2) (known_in last3)) where
  -- each of the others has added nothing from the first meeting on, and may have seen more
  pub others_keep : AllZip Keeps first told
  others_keep =
      zip_through Keeps stays_through first twice told
      (zip_weaker Meets Keeps
      (λ old new is. record { store = is.0; adds_nothing = meets_keeps (known_in old) (known_in new) is.1 })
      first twice (zip_through Meets meets_through first once twice m1 m2))
      k3

  -- the last one has added nothing from the first meeting on, and may have seen more
  pub last_keeps : AddsNothing (known_in last) (known_in last3)
  last_keeps = grind (arith, keeps_again, known_in, meets_keeps)

  -- what the last one has seen in the end has all that each of the others knew after the second meeting
  taken_twice : All (λ session. IsTakenIn (known_in last3).seen (known_in session)) twice
  taken_twice k d below = grind (arith, entries_of, known_in)

  -- what the last one has seen in the end has all that each of the others knew at first
  pub others_taken : All (λ session. IsTakenIn (known_in last3).seen (known_in session)) first
  others_taken =
      all_back Meets (λ session. IsTakenIn (known_in last3).seen (known_in session))
      (λ session. IsTakenIn (known_in last3).seen (known_in session))
      (λ old new is taken. record {
        seen = subst (λ list. Begins list (known_in last3).seen) is.1.seen taken.seen;
        mine = ap (λ n. entries_of n (known_in last3).seen) (sym is.1.number) ∙ taken.mine ∙ is.1.mine;
      })
      first twice (zip_through Meets meets_through first once twice m1 m2) taken_twice

  -- what the last one has seen in the end has all that it knew at first
  pub last_taken : IsTakenIn (known_in last3).seen (known_in last)
  last_taken = record {
    seen = last_keeps.seen;
    mine = ap (λ n. entries_of n (known_in last3).seen) (sym last_keeps.number) ∙ own_part last3 ∙ last_keeps.mine;
  }

  -- what the last one has seen in the end has of each other session's number just the entries that this session knows
  mines : All (λ session. entries_of (known_in session).number (known_in last3).seen ≡ (known_in session).mine) told
  mines =
      all_kept Keeps (λ session. IsTakenIn (known_in last3).seen (known_in session))
      (λ session. entries_of (known_in session).number (known_in last3).seen ≡ (known_in session).mine)
      (λ old new is taken. ap (λ n. entries_of n (known_in last3).seen) is.adds_nothing.number ∙ taken.mine
      ∙ sym is.adds_nothing.mine) twice told k3
      taken_twice

  -- each of the others has seen all that the last one has, with its own entries there
  pub others_hold : All (λ session. HoldsAll (known_in last3).seen (known_in session)) told
  others_hold k d below = record { seen = t3 k d below; mine = mines k d below }

  -- the last one has seen all that it has, with its own entries there
  pub last_holds : HoldsAll (known_in last3).seen (known_in last3)
  last_holds = record { seen = begins_itself (known_in last3).seen; mine = own_part last3 }
