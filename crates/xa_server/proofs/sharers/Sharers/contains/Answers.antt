use Rattle.std.{proofs.Common.{ap, sym, ◌∙◌}, specs.FinSet.contains-empty}
use Rattle.xa_xid.specs.Xid.{xid_cmp, same_xid}
use Rattle.xa_server.{specs.Sharers.set_of, proofs.Sharing.contains-one}
use Rattle.std.specs.FinSet as set
use Rattle.xa_server.proofs.sharers.Sharers.contains.Goals as goal

pub returns-in-Nobody : goal.returns-in-Nobody
returns-in-Nobody c =
    sym (contains-empty xid_cmp c.args.xid.now)
    ∙ ap (λ sharers. set.contains sharers c.args.xid.now) (sym (ap set_of c.in-Nobody.is) ∙ c.self.view_is)

pub returns-in-One : goal.returns-in-One
returns-in-One c =
    c.is_same.ensures ∙ ap (same_xid c.args.xid.now) c.xid.ensures ∙ sym (contains-one c.in-One.own c.args.xid.now)
    ∙ ap (λ sharers. set.contains sharers c.args.xid.now) (sym (ap set_of c.in-One.is) ∙ c.self.view_is)
