-- How many calls a session has left, once one session of a list was limited.
use Rattle.std.proofs.{Common.{◌≡◌, ◌<◌, ℕ, List, length, map, ap, ◌∙◌, Some}, lemmas.Option.slice_get-map}
use Rattle.std.specs.{Prelude.{slice_get, slice_set}, Option.option_map}
use Rattle.xa_coordinator.{specs.declared.fused.Fused.Fused, proofs.Places.get_set_same}

-- once a session that has so many calls left stands in a store's place, so many are left there
pub left_there : {S : Type 0} (sessions : List (Fused S)) (store calls : ℕ) (session : Fused S)
    → store < length sessions → session.left ≡ calls
    → slice_get (map (λ (s : Fused S). s.left) (slice_set sessions store session)) store ≡ Some calls
left_there {S} sessions store calls session below is =
    slice_get-map (λ (s : Fused S). s.left) (slice_set sessions store session) store
    ∙ ap (option_map (λ (s : Fused S). s.left)) (get_set_same sessions store session below)
    ∙ ap Some is
