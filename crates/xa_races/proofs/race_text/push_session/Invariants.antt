use Rattle.std.proofs.Common.{◌≡◌, ◌++◌, take}
use Rattle.xa_races.specs.Outcome.{session_text}
use Rattle.xa_races.proofs.race_text.push_session.Given as goal

abbrev pub invariant-loop-index : goal.invariant-loop-index
invariant-loop-index l =
    l.text.items ≡ l.fn.text.items ++ session_text l.session (take l.index l.asked) (take l.index l.answers)
