use Rattle.std.{proofs.Common.{◌≡◌, refl, ap, sym, ◌∙◌, Some, None, Option}, specs.{Prelude.is_some, Option.option_map}}
use Rattle.xa_server.specs.{declared.branch.BranchRecord.BranchRecord, State.is_known}
use Rattle.std.specs.FinMap as map
use Rattle.xa_server.proofs.Seen
use Rattle.xa_server.proofs.server.Server.knows.Goals as goal

pub returns : goal.returns
returns c =
    c.is_some.ensures ∙ ap is_some c.phase_of.ensures ∙ mapped (map.get c.self.inside.branches c.args.xid.now)
    ∙ sym (Seen.is_known-seen c.self.inside.branches c.self.inside.rows c.args.xid.now)
    ∙ ap (λ s. is_known s c.args.xid.now) c.self.view_is
  where
    mapped : (found : Option BranchRecord) → is_some (option_map (λ (b : BranchRecord). b.phase) found) ≡ is_some found
    mapped None = refl
    mapped (Some branch) = refl
