use Rattle.std.proofs.Common.{sym, ◌∙◌, rules}
use Rattle.xa_server.proofs.Parted.{no_parts}
use Rattle.xa_server.proofs.runs.Runs.is_empty.Goals as goal

pub returns : goal.returns
returns c is = sym c.self.view_is ∙ no_parts _ c.self.inside.parts (search rules)
