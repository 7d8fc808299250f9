use Rattle.std.proofs.Common.{◌≡◌, take}
use Rattle.xa_orders.specs.Since.{state_since}
use Rattle.xa_orders.proofs.kept_server.carry_out_all.Given as goal

-- what stands before the place was carried out
abbrev pub invariant-loop-done : goal.invariant-loop-done
invariant-loop-done l = l.server ≡ state_since l.initial.server (take l.done-index l.since)
