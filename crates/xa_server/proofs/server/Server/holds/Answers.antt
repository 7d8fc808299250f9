use Rattle.std.{proofs.Common.{ap, sym, ◌∙◌}, specs.{Prelude.is_some, Option.option_and_then}}
use Rattle.xa_server.specs.{Locks.holds, Rows.lock_by}
use Rattle.xa_server.proofs.Seen
use Rattle.xa_server.proofs.server.Server.holds.Goals as goal

pub returns : goal.returns
returns c =
    c.is_held_by.ensures
    ∙ sym (Seen.holds-seen c.self.inside.branches c.self.inside.rows c.args.own.now c.args.key.now c.self.invariant)
    ∙ ap (λ s. holds s c.args.own.now c.args.key.now) c.self.view_is
