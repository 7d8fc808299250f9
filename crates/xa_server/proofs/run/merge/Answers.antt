use Rattle.std.proofs.Common.{sym}
use Rattle.xa_xid.specs.Xid.{bytes_cmp}
use Rattle.xa_server.{specs.Layers.kept_write, proofs.Merging.{adds_newer, adds_both, adds_older}}
use Rattle.xa_server.proofs.run.merge.Goals as goal

pub loop-older-preserved-in-Less : goal.loop-older-preserved-in-Less
loop-older-preserved-in-Less c =
    adds_newer bytes_cmp (kept_write c.args.is_last) c.loop-older.rows _ _ c.loop-older.newer
    c.loop-older.older _ (sym c.in-Less.ensures)
    c.in_ok-newer-in-Less.ensures.pushed c.in_ok-newer-in-Less.ensures.rest c.loop-older.invariant

pub loop-older-preserved-in-Equal : goal.loop-older-preserved-in-Equal
loop-older-preserved-in-Equal c =
    adds_both bytes_cmp (kept_write c.args.is_last) c.loop-older.rows _ _ c.loop-older.newer
    c.loop-older.older _ _ (sym c.in-Equal.ensures)
    c.in_ok-newer-in-Equal.ensures.pushed c.in_ok-newer-in-Equal.ensures.rest c.skip_first-older.ensures
    c.loop-older.invariant
