use Rattle.std.proofs.Common.{ap, ◌∙◌, [], ◌∷◌, ◌++◌}
use Rattle.xa_server.proofs.Sharing.{several_in, few_added, many_added}
use Rattle.std.specs.FinSet as set
use Rattle.xa_server.proofs.several_sharers.SeveralSharers.add.Goals as goal

pub returns-in_ok-push-clause-ok : goal.returns-in_ok-push-clause-ok
returns-in_ok-push-clause-ok c =
    ap (λ few. several_in few c.self.inside.many)
    (c.in_ok-push.ensures.items ∙ ap (λ xid. c.self.inside.few.items ++ xid ∷ []) c.in_ok-try_clone.ensures)
    ∙ few_added c.self.inside.few.items c.self.inside.many c.args.xid.now
    ∙ ap (λ sharers. set.insert sharers c.args.xid.now) c.self.view_is

pub returns-in_ok-_is_new-clause-ok : goal.returns-in_ok-_is_new-clause-ok
returns-in_ok-_is_new-clause-ok c =
    many_added c.self.inside.few.items c.self.inside.many c.insert.new.self c.args.xid.now
    (rw (← c.xid.ensures, ← c.copy.ensures) c.in_ok-_is_new.ensures.updates)
    ∙ ap (λ sharers. set.insert sharers c.args.xid.now) c.self.view_is
