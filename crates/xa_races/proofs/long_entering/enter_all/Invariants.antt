use Rattle.std.proofs.Common.{◌≡◌, map, length, vec_len}
use Rattle.xa_races.specs.LongRace.{AreNewRuns}
use Rattle.xa_races.proofs.long_entering.enter_all.Given as goal

abbrev pub invariant-loop-lines : goal.invariant-loop-lines
invariant-loop-lines l =
    AreNewRuns l.store.value 1 (map (λ list. list.items) l.yielded) l.runs.items × (vec_len l.runs ≡ length l.yielded)
