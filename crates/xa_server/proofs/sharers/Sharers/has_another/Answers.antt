use Rattle.std.{proofs.Common.{ap, sym, ◌∙◌, []}, specs.List.list_any}
use Rattle.xa_server.{specs.{Locks.is_another, Sharers.set_of}, proofs.Sharing.{any-listed, any-one}}
use Rattle.std.specs.FinSet as set
use Rattle.xa_server.proofs.sharers.Sharers.has_another.Goals as goal

pub returns-in-Nobody : goal.returns-in-Nobody
returns-in-Nobody c =
    sym (any-listed (is_another c.args.association.now) [])
    ∙ ap (λ sharers. list_any (is_another c.args.association.now) (set.items sharers))
    (sym (ap set_of c.in-Nobody.is) ∙ c.self.view_is)

pub returns-in-One : goal.returns-in-One
returns-in-One c =
    c.is_another.ensures ∙ ap (is_another c.args.association.now) c.xid.ensures
    ∙ sym (any-one (is_another c.args.association.now) c.in-One.own)
    ∙ ap (λ sharers. list_any (is_another c.args.association.now) (set.items sharers))
    (sym (ap set_of c.in-One.is) ∙ c.self.view_is)
