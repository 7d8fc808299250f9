-- Sessions that have met and left.
use Rattle.std.proofs.{Common.{◌≡◌, ◌<◌, List, [], ◌∷◌, length, map, subst}, lemmas.List.length-map}
use Rattle.std.{proofs.lemmas.List.Elements.recursion_from_All, specs.List.{All, AllZip, AllByRecursion}}
use Rattle.xa_words.specs.Entry.{Entry}
use Rattle.decision_log.specs.Known.{LogIdentity}
use Rattle.xa_store.specs.{Passes.{Pass, log_of, known_of}, Closed.{HasLeft, HasClosed}}
use Rattle.xa_store.specs.{Gathered.{IsTakenIn, AddsNothing, last_known}, Renewal.AreGathered}

module _ {S : Type 0} (pass_of : S → Pass) (history : List Entry) where
  -- if each pass is of its session's log and has added nothing since, and the history has all that each knows, each has
  -- left (`HasLeft`)
  leaves : (sessions : List S) (passes : List Pass)
      → AllZip (λ session pass. (log_of pass ≡ log_of (pass_of session))
      × AddsNothing (known_of (pass_of session)) (known_of pass)) sessions passes
      → AllByRecursion (λ pass. IsTakenIn history (known_of pass)) passes
      → AllZip (HasLeft history) (map pass_of sessions) passes
  leaves [] [] zip whole = tt
  leaves [] (pass ∷ passes) zip whole = absurd zip
  leaves (session ∷ sessions) [] zip whole = absurd zip
  leaves (session ∷ sessions) (pass ∷ passes) zip whole =
      (record { same_log = zip.0.0; adds_nothing = zip.0.1; taken_in = whole.0 }, leaves sessions passes zip.1 whole.1)

-- sessions have closed (`HasClosed`) if their passes have added nothing since, the history is what the last pass has
-- seen and has all that each knows, and a renewal takes the passes if there was a session
pub closes : {S : Type 0} (pass_of : S → Pass) (identity : LogIdentity) (sessions : List S) (history : List Entry)
    (passes : List Pass)
    → AllZip (λ session pass. (log_of pass ≡ log_of (pass_of session))
    × AddsNothing (known_of (pass_of session)) (known_of pass)) sessions passes
    → history ≡ (last_known (map known_of passes)).seen → All (λ pass. IsTakenIn history (known_of pass)) passes
    → (0 < length sessions → AreGathered identity passes) → HasClosed identity (map pass_of sessions) history passes
closes pass_of identity sessions history passes zip last whole gathered = record {
  left = leaves pass_of history sessions passes zip (recursion_from_All
      (λ pass. IsTakenIn history (known_of pass)) passes whole);
  last = last;
  gathered = λ some. gathered (subst (λ n. 0 < n) (length-map sessions pass_of) some);
}
