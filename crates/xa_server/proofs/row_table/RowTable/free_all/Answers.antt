use Rattle.std.proofs.Common.{refl, arith, length-append}
use Rattle.xa_server.proofs.Freeing.{freed_one_more}
use Rattle.xa_server.proofs.row_table.RowTable.free_all.Goals as goal

pub loop-key-init : goal.loop-key-init
loop-key-init c = record { left = λ key. refl }

pub loop-key-smaller : goal.loop-key-smaller
loop-key-smaller c = rw (c.in-Some.ensures) (rw length-append (omega arith))

pub loop-key-preserved : goal.loop-key-preserved
loop-key-preserved c =
    freed_one_more c.args.commits c.args.xid.now c.args.keys c.pop.new.self c.in-Some.key c.args.self.now
    c.loop-key.self c.free.new.self
    (rw (← c.in-Some.ensures) c.loop-key.invariant) c.free.ensures

pub returns : goal.returns
returns c = rw c.in_default.ensures.0 at c.loop-key.invariant.left
