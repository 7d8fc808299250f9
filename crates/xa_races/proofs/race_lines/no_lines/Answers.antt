use Rattle.std.proofs.Common.{refl}
use Rattle.xa_races.proofs.ReadLines.{has_read_nothing}
use Rattle.xa_races.proofs.race_lines.no_lines.Goals as goal

pub returns : goal.returns
returns c = has_read_nothing _ c.new-faults.ensures.items refl c.in_ok-lists.ensures.empty
