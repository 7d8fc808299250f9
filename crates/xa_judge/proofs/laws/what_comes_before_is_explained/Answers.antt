use Rattle.std.proofs.Common.{ℕ, zero, suc, List, [], ◌∷◌, take, refl}
use Rattle.xa_judge.specs.declared.{event.Event.Event, moves.Move.{Move, TheVariants.{Event as Seeing, Effect}}}
use Rattle.xa_judge.specs.Explained.{Config, opening_config, LeadsThrough}
use Rattle.xa_judge.proofs.laws.what_comes_before_is_explained.Goals as goal

-- the moves up to where the first events were seen
cut : (old new : Config) (events : List Event) (count : ℕ) (moves : List Move) → LeadsThrough old events moves new
    → (fewer : List Move) × (end : Config) × LeadsThrough old (take count events) fewer end
cut old new events count (Effect session act ∷ moves) runs =
    let rest = cut runs.0 new events count moves runs.3 in
    (Effect session act ∷ rest.0, rest.1, (runs.0, runs.1, runs.2, rest.2))
cut old new [] count (Seeing ∷ moves) runs = absurd runs
cut old new (event ∷ events) zero (Seeing ∷ moves) runs = ([], old, refl)
cut old new (event ∷ events) (suc count) (Seeing ∷ moves) runs =
    let rest = cut runs.0 new events count moves runs.2 in
    (Seeing ∷ rest.0, rest.1, (runs.0, runs.1, rest.2))
cut old new [] zero [] runs = ([], old, refl)
cut old new [] (suc count) [] runs = ([], old, refl)
cut old new (event ∷ events) count [] runs = absurd runs

pub returns : goal.returns
returns c = λ base events count explained. cut (opening_config base) explained.1 events count explained.0 explained.2
