use Rattle.std.{proofs.Common.{[], ◌∷◌, ◌++◌, ap, ◌∙◌}, specs.Option.unwrap_or}
use Rattle.xa_audit.{specs.Globals.global_cmp, proofs.Lists.put_again}
use Rattle.xa_audit.proofs.globals.add.Goals as goal

pub returns : goal.returns
returns c =
    put_again global_cmp c.args.globals.now c.remove.new.self c.insert.new.self c.args.name _ _
    c.remove.ensures.updates.0 c.in_ok-insert.ensures.updates.0
    (c.in_ok-push.ensures
    ∙ ap (λ known. known ++ c.args.branch ∷ []) (c.known_branches-branches.ensures
    ∙ ap (λ found. unwrap_or found []) c.remove.ensures.value))
