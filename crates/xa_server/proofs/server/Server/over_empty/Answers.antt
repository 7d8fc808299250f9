use Rattle.std.proofs.Common.{ap, ◌∙◌}
use Rattle.xa_server.specs.View.{state_of}
use Rattle.std.specs.FinMap as map
use Rattle.xa_server.proofs.Steps
use Rattle.xa_server.proofs.Whole
use Rattle.xa_server.proofs.server.Server.over_empty.Goals as goal

pub invariant_of-result : goal.invariant_of-result
invariant_of-result c = rw (c.requires.no_branch, c.requires.no_row) Whole.whole_empty

pub returns : goal.returns
returns c = ap (λ b. state_of b c.args.rows) c.requires.no_branch ∙ ap (state_of map.empty) c.requires.no_row
    ∙ Steps.seen_empty
