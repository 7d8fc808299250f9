use Rattle.std.proofs.Common.{◌≡◌, ◌≤◌, length, map, vec_len, vec_capacity}
use Rattle.xa_races.proofs.parting.part.Given as goal

abbrev pub invariant-loop-one : goal.invariant-loop-one
invariant-loop-one l =
    (l.sessions.items ≡ map (λ one. one.session) l.yielded)
    × (l.answers.items ≡ map (λ one. one.said.answers) l.yielded)
    × (l.added.items ≡ map (λ one. one.said.added) l.yielded)
    × (vec_len l.sessions ≡ length l.yielded)
    × (vec_len l.answers ≡ length l.yielded)
    × (vec_len l.added ≡ length l.yielded)
    × (length l.fn.raced.items ≤ vec_capacity l.sessions)
    × (length l.fn.raced.items ≤ vec_capacity l.answers)
    × (length l.fn.raced.items ≤ vec_capacity l.added)
