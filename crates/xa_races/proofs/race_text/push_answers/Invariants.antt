use Rattle.std.proofs.Common.{◌≡◌, ◌++◌, ℕ, List, map, take}
use Rattle.xa_races.specs.Outcome.{answers_text, AreAsked}
use Rattle.xa_races.proofs.race_text.push_answers.Given as goal

abbrev pub invariant-loop-index : goal.invariant-loop-index
invariant-loop-index l = (lines : List (List ℕ)) → AreAsked lines (map (λ list. list.items) l.asked)
    → l.text.items ≡ l.fn.text.items ++ answers_text 1 lines (map (λ list. list.items) (take l.index l.answers))
