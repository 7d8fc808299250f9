use Rattle.std.{proofs.Common.{ap, sym, ◌∙◌, [], ◌∷◌}, specs.Prelude.cond}
use Rattle.xa_xid.specs.Xid.{same_xid}
use Rattle.xa_server.{specs.Sharers.set_of, proofs.Sharing.{listed, listed_left, one_left}}
use Rattle.std.specs.FinSet as set
use Rattle.xa_server.proofs.sharers.leave.Goals as goal

pub returns-in-Nobody : goal.returns-in-Nobody
returns-in-Nobody c = rw c.in-Nobody.is (listed_left [] c.args.xid.now)

pub returns-then-is_same : goal.returns-then-is_same
returns-then-is_same c =
    ap (λ b. cond b set.empty (listed (c.in-One.own ∷ [])))
    (c.if-is_same.ensures ∙ ap (λ own. same_xid own c.args.xid.now) c.xid.ensures)
    ∙ one_left c.in-One.own c.args.xid.now
    ∙ ap (λ branches. set.remove (set_of branches) c.args.xid.now) (sym c.in-One.is)

pub returns-else-is_same : goal.returns-else-is_same
returns-else-is_same c =
    ap (λ b. cond b set.empty (listed (c.in-One.own ∷ [])))
    (c.if-is_same.ensures ∙ ap (λ own. same_xid own c.args.xid.now) c.xid.ensures)
    ∙ one_left c.in-One.own c.args.xid.now
    ∙ ap (λ branches. set.remove (set_of branches) c.args.xid.now) (sym c.in-One.is)
