use Rattle.std.{proofs.Common.{ap, sym, ◌∙◌}, specs.{Prelude.◌||◌, List.list_any}}
use Rattle.xa_xid.specs.Xid.{xid_cmp, same_xid}
use Rattle.xa_server.proofs.Sharing.{contains-several, or_first, or_second}
use Rattle.std.specs.BTreeSet as tree
use Rattle.std.specs.FinSet as set
use Rattle.xa_server.proofs.several_sharers.SeveralSharers.contains.Goals as goal

pub returns-then-is_in_list : goal.returns-then-is_in_list
returns-then-is_in_list c =
    c.is_in_list.ensures ∙ or_first _ _ c.if-is_in_list.ensures
    ∙ ap (λ few. list_any (same_xid c.args.xid.now) few || tree.contains xid_cmp c.self.inside.many c.args.xid.now)
    c.deref.ensures.value
    ∙ sym (contains-several c.self.inside.few.items c.self.inside.many c.args.xid.now)
    ∙ ap (λ sharers. set.contains sharers c.args.xid.now) c.self.view_is

pub returns-else-is_in_list : goal.returns-else-is_in_list
returns-else-is_in_list c =
    c.contains.ensures ∙ or_second _ _ c.if-is_in_list.ensures
    ∙ ap (λ few. list_any (same_xid c.args.xid.now) few || tree.contains xid_cmp c.self.inside.many c.args.xid.now)
    c.deref.ensures.value
    ∙ sym (contains-several c.self.inside.few.items c.self.inside.many c.args.xid.now)
    ∙ ap (λ sharers. set.contains sharers c.args.xid.now) c.self.view_is
