use Rattle.std.{proofs.Common.{◌≡◌, take}, specs.Prelude.fold}
use Rattle.xa_orders.specs.Marks.{with_key}
use Rattle.xa_orders.proofs.marks.with_values.Given as goal

-- of the rows before the place
abbrev pub invariant-loop-key : goal.invariant-loop-key
invariant-loop-key l = l.longer ≡ fold (with_key l.server) l.fn.mark (take l.key-index l.keys)
