use Rattle.std.{proofs.Common.{ap, sym, ◌∙◌}, specs.{Prelude.◌||◌, List.list_any}}
use Rattle.xa_server.{specs.Locks.is_another, proofs.Sharing.{any-several, or_first, or_second}}
use Rattle.std.specs.FinSet as set
use Rattle.xa_server.proofs.several_sharers.SeveralSharers.has_another.Goals as goal

pub returns-then-has_another_in_list : goal.returns-then-has_another_in_list
returns-then-has_another_in_list c =
    c.has_another_in_list.ensures ∙ or_first _ _ c.if-has_another_in_list.ensures
    ∙ ap (λ few. list_any (is_another c.args.association.now) few
    || list_any (is_another c.args.association.now) c.self.inside.many.keys) c.deref.ensures.value
    ∙ sym (any-several (is_another c.args.association.now) c.self.inside.few.items c.self.inside.many)
    ∙ ap (λ sharers. list_any (is_another c.args.association.now) (set.items sharers)) c.self.view_is

pub returns-else-has_another_in_list : goal.returns-else-has_another_in_list
returns-else-has_another_in_list c =
    c.has_another_in.ensures ∙ or_second _ _ c.if-has_another_in_list.ensures
    ∙ ap (λ few. list_any (is_another c.args.association.now) few
    || list_any (is_another c.args.association.now) c.self.inside.many.keys) c.deref.ensures.value
    ∙ sym (any-several (is_another c.args.association.now) c.self.inside.few.items c.self.inside.many)
    ∙ ap (λ sharers. list_any (is_another c.args.association.now) (set.items sharers)) c.self.view_is
