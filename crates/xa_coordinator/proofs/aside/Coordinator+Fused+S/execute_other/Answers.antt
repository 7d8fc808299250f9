use Rattle.std.proofs.{Common.{[], ◌∙◌, ap}, Math.Seq.map-set_same}
use Rattle.xa_coordinator.specs.{Beside.{IsLeftAlone, IsAnsweredSo}, declared.fused.Fused.Fused}
use Rattle.xa_coordinator.proofs.Keeping.{at_place, changes_at}
use Rattle.xa_coordinator.proofs.aside.Coordinator+Fused+S.execute_other.Goals as goal

pub returns-clause-left : goal.returns-clause-left
returns-clause-left g c =
    map-set_same (λ (session : Fused g.row.S.Denot). session.left) c.args.self.now.stores.items c.args.store
    c.execute_inner.new.self c.index_mut.result.now
    (c.execute_inner.ensures.left ∙ ap (λ (session : Fused g.row.S.Denot). session.left) c.index_mut.ensures.value)

pub returns-clause-others : goal.returns-clause-others
returns-clause-others g c = changes_at c.args.self.now.stores.items c.args.store c.execute_inner.new.self

pub returns-clause-alone : goal.returns-clause-alone
returns-clause-alone g c =
    at_place (λ (session : Fused g.row.S.Denot). g.S.Speak.view session.inner) [] IsLeftAlone
    c.args.self.now.stores.items c.args.store c.index_mut.result.now
    c.execute_inner.new.self c.index_mut.ensures.value c.execute_inner.ensures.alone

pub returns-clause-given : goal.returns-clause-given
returns-clause-given g c =
    at_place (λ (session : Fused g.row.S.Denot). g.S.Beside.other session.inner) []
    (IsAnsweredSo c.args.statement.now c.execute_inner.result)
    c.args.self.now.stores.items c.args.store c.index_mut.result.now c.execute_inner.new.self c.index_mut.ensures.value
    c.execute_inner.ensures.given
