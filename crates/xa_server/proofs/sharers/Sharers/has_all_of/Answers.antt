use Rattle.std.proofs.Common.{ap, sym, ◌∙◌, [], refl}
use Rattle.xa_server.{specs.Sharers.set_of, proofs.Sharing.{subset-listed, subset-one}}
use Rattle.std.specs.FinSet as set
use Rattle.xa_server.proofs.sharers.Sharers.has_all_of.Goals as goal

pub returns-in-Nobody : goal.returns-in-Nobody
returns-in-Nobody c all =
    ap (λ sharers. set.is_subset sharers c.args.self.now) (sym c.other.view_is ∙ ap set_of c.in-Nobody.is)
    ∙ subset-listed [] c.args.self.now refl

pub returns-in-One : goal.returns-in-One
returns-in-One c all =
    ap (λ sharers. set.is_subset sharers c.args.self.now) (sym c.other.view_is ∙ ap set_of c.in-One.is)
    ∙ subset-one c.in-One.own c.args.self.now (ap (set.contains c.args.self.now) (sym c.xid.ensures)
    ∙ sym c.contains.ensures ∙ all)
