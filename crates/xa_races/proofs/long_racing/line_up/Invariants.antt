use Rattle.std.{proofs.Common.{◌≡◌, ◌≤◌, length, vec_len, vec_capacity}, specs.List.AllZip}
use Rattle.xa_races.proofs.long_racing.line_up.Given as goal

abbrev pub invariant-loop-run : goal.invariant-loop-run
invariant-loop-run g l =
    AllZip (λ run racer. (racer.session ≡ run.session) × (racer.lines.items ≡ run.lines.items)
    × (racer.gate.now ≡ l.fn.gate)) l.yielded l.racers.items
    × (vec_len l.racers ≡ length l.yielded)
    × (length l.fn.runs.items ≤ vec_capacity l.racers)
