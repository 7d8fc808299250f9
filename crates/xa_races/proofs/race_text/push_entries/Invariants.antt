use Rattle.std.proofs.Common.{◌≡◌, ◌++◌, take}
use Rattle.xa_races.specs.Outcome.{entries_text}
use Rattle.xa_races.proofs.race_text.push_entries.Given as goal

abbrev pub invariant-loop-place : goal.invariant-loop-place
invariant-loop-place l = l.text.items ≡ l.fn.text.items ++ entries_text 0 (take l.place l.entries)
