-- The rows that calls name.
use Rattle.std.proofs.Common.{◌≡◌, ℕ, ◌+◌, ◌<◌, List, [], ◌∷◌, ◌++◌, length, take, get_or, refl, ap, sym, ◌∙◌}
use Rattle.std.proofs.lemmas.List.{take_more}
use Rattle.xa_judge.specs.declared.event.Event.{Event}
use Rattle.xa_record.specs.Reports.{with_row_called, with_rows_called, keys_named}

-- the keys that two joined lists of events name are those that the first names, with those of the second put in
named-append : (keys : List (List ℕ)) (events more : List Event)
    → with_rows_called keys (events ++ more) ≡ with_rows_called (with_rows_called keys events) more
unfolding with_rows_called
named-append keys [] more = refl
named-append keys (event ∷ events) more = named-append (with_row_called event keys) events more

-- the loop over events: once the key that one more names is put in, the keys are those that all events up to it name
pub named-more : (events : List Event) (old new : List (List ℕ)) (index : ℕ) (event : Event) → index < length events
    → event ≡ get_or events index event
    → old ≡ keys_named (take index events) → new ≡ with_row_called event old
    → new ≡ keys_named (take (index + 1) events)
unfolding with_rows_called
named-more events old new index event within at before put =
    put ∙ ap (with_row_called event) before ∙ sym (named-append [] (take index events) (event ∷ []))
    ∙ sym (ap keys_named (take_more events index event within ∙ ap (λ x. take index events ++ x ∷ []) (sym at)))

-- before the first event no key was named
pub named-none : (events : List Event) (keys : List (List ℕ)) → keys ≡ [] → keys ≡ keys_named (take 0 events)
unfolding with_rows_called
named-none events keys none = none
