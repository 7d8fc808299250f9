use Rattle.std.proofs.{Common.{◌∙◌, ap}, Math.Seq.map-set_same}
use Rattle.xa_coordinator.{specs.declared.fused.Fused.Fused, proofs.Keeping.changes_at}
use Rattle.xa_coordinator.proofs.fused.Coordinator+Fused+S.allow.Goals as goal

pub returns-clause-sessions : goal.returns-clause-sessions
returns-clause-sessions g c =
    map-set_same (λ (session : Fused g.row.S.Denot). session.inner) c.args.self.now.stores.items c.args.store
    c.allow.new.self c.index_mut.result.now
    (c.allow.ensures.inner ∙ ap (λ (session : Fused g.row.S.Denot). session.inner) c.index_mut.ensures.value)

pub returns-clause-others : goal.returns-clause-others
returns-clause-others g c = changes_at c.args.self.now.stores.items c.args.store c.allow.new.self
