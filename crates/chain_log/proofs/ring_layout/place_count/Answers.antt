use Rattle.chain_log.proofs.Names.{length_by_newest, length_by_zero}
use Rattle.chain_log.proofs.ring_layout.place_count.Goals as goal

pub returns-then-newest-eq0 : goal.returns-then-newest-eq0
returns-then-newest-eq0 c seen all same = length_by_zero c.args.columns c.args.newest seen all same c.if-newest-eq0.true

pub returns : goal.returns
returns c seen all same = length_by_newest c.args.columns c.args.newest seen all same c.if-newest-eq0.false
