use Rattle.std.proofs.Common.{◌≡◌, ℕ, ◌-◌, suc, length}
use Rattle.xa_server.specs.Tables.{opened_at}
use Rattle.xa_server.proofs.branch_table.make_place.Given as goal

-- each session has open what it had
abbrev pub invariant-loop-session : goal.invariant-loop-session
invariant-loop-session l = (at : ℕ) → opened_at l.opened.items at ≡ opened_at l.fn.opened.items at

abbrev pub decreases-loop-session : goal.decreases-loop-session
decreases-loop-session l = suc l.session - length l.opened.items
