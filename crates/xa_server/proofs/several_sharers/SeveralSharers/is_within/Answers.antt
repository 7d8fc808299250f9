use Rattle.std.{proofs.Common.{ap, sym, ◌∙◌}, specs.List.list_all}
use Rattle.xa_server.proofs.Sharing.{subset-several}
use Rattle.std.specs.FinSet as set
use Rattle.xa_server.proofs.several_sharers.SeveralSharers.is_within.Goals as goal

pub returns-then-has_all_in_list : goal.returns-then-has_all_in_list
returns-then-has_all_in_list c all =
    rw (← c.self.view_is)
    (subset-several c.self.inside.few.items c.self.inside.many c.args.sharers.now
    (ap (λ few. list_all (set.contains c.args.sharers.now) few) (sym c.deref.ensures.value)
    ∙ sym c.if-has_all_in_list.ensures)
    (sym c.has_all_in.ensures ∙ all))
