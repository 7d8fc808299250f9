use Rattle.std.proofs.Common.{◌≡◌, ◌≤◌, ◌-◌, ℕ, [], map, vec_len}
use Rattle.xa_races.specs.Race.{part_at}
use Rattle.xa_races.proofs.race_lines.empty_lists.Given as goal

abbrev pub invariant-loop-alloc : goal.invariant-loop-alloc
invariant-loop-alloc l = record {
  few : vec_len l.lists ≤ 16;
  empty : (index : ℕ) → part_at (map (λ list. list.items) l.lists.items) index ≡ [];
}

abbrev pub decreases-loop-alloc : goal.decreases-loop-alloc
decreases-loop-alloc l = 16 - vec_len l.lists
