use Rattle.std.proofs.{Common.{◌≡◌, ◌<◌, length, refl, ap, sym, subst, ◌∙◌, arith}, lemmas.List.length-set}
use Rattle.std.proofs.lemmas.List.Elements.{All-set}
use Rattle.decision_log.specs.Calls.{MeetsFirst, MeetsSecond}
use Rattle.xa_store.proofs.Gathering.{meets_nobody, meets_again, no_round, next_round}
use Rattle.xa_store.proofs.meeting.meet_each.Goals as goal

pub loop-index-init : goal.loop-index-init
loop-index-init g c = (
  no_round (λ session. g.L.DecisionLog.known session.pass)
      (λ old new. (new.base.now ≡ old.base.now) × (g.L.DecisionLog.belongs_to new.pass
      ≡ g.L.DecisionLog.belongs_to old.pass)
      × MeetsFirst (g.L.DecisionLog.known old.pass) (g.L.DecisionLog.known new.pass))
      (λ session. (refl, refl, meets_nobody (g.L.DecisionLog.known session.pass)))
      (λ old now new s t. (
        t.0 ∙ s.0,
        t.1 ∙ s.1,
        meets_again (g.L.DecisionLog.known old.pass) (g.L.DecisionLog.known now.pass)
            (g.L.DecisionLog.known new.pass) s.2 t.2,
      ))
      (λ old new s. s.2)
      c.args.others.now.items (g.L.DecisionLog.known c.args.last.now.pass),
  c.requires,
  refl,
  refl,
  refl,
  refl,
)

pub loop-index-preserved : goal.loop-index-preserved
loop-index-preserved g c =
    let inv = c.loop-index.invariant in
    let belong = c.meet.ensures.belongs in
    let bases = c.meet.ensures.bases in
    let met = c.index_mut.result.now in
    let here = c.index_mut.ensures.value in
    let below : c.loop-index.index < length c.loop-index.others.items =
    omega (arith, c.loop-index-test.true, c.loop-index.others.ok.0, c.args.others.now.ok.0, c.loop-index.invariant.4)
    in (
      next_round (λ session. g.L.DecisionLog.known session.pass)
          (λ old new. (new.base.now ≡ old.base.now) × (g.L.DecisionLog.belongs_to new.pass
          ≡ g.L.DecisionLog.belongs_to old.pass)
          × MeetsFirst (g.L.DecisionLog.known old.pass) (g.L.DecisionLog.known new.pass))
          (λ session. (refl, refl, meets_nobody (g.L.DecisionLog.known session.pass)))
          (λ old now new s t. (
            t.0 ∙ s.0,
            t.1 ∙ s.1,
            meets_again (g.L.DecisionLog.known old.pass) (g.L.DecisionLog.known now.pass)
                (g.L.DecisionLog.known new.pass) s.2 t.2,
          ))
          (λ old new s. s.2)
          c.args.others.now.items c.loop-index.others.items (g.L.DecisionLog.known c.args.last.now.pass)
          (g.L.DecisionLog.known c.loop-index.last.pass)
          (g.L.DecisionLog.known c.meet.new.other.pass)
          c.loop-index.index met c.meet.new.self below inv.0 (
            bases.0 ∙ ap (λ s. s.base.now) here,
            belong.0 ∙ ap (λ s. g.L.DecisionLog.belongs_to s.pass) here,
            subst (λ s. MeetsFirst (g.L.DecisionLog.known s.pass)
                (g.L.DecisionLog.known c.meet.new.self.pass)) here c.meet.ensures.first,
          )
          (subst (λ s. MeetsSecond (g.L.DecisionLog.known s.pass) (g.L.DecisionLog.known c.loop-index.last.pass)
          (g.L.DecisionLog.known c.meet.new.other.pass))
          here c.meet.ensures.second),
      All-set (λ session. g.L.DecisionLog.belongs_to session.pass
          ≡ g.L.DecisionLog.belongs_to c.meet.new.other.pass) c.loop-index.others.items
          c.loop-index.index
          c.meet.new.self
          (belong.0 ∙ ap (λ s. g.L.DecisionLog.belongs_to s.pass) here ∙ inv.1 c.loop-index.index met below
          ∙ sym belong.1)
          (λ k d below. inv.1 k d below ∙ sym belong.1),
      bases.1 ∙ inv.2,
      belong.1 ∙ inv.3,
      length-set c.loop-index.others.items c.loop-index.index c.meet.new.self ∙ inv.4,
      inv.5,
    )

pub index_mut-requires : goal.index_mut-requires
index_mut-requires g c =
    omega (arith, c.loop-index-test.true, c.loop-index.others.ok.0, c.args.others.now.ok.0, c.loop-index.invariant.4)

pub meet-requires : goal.meet-requires
meet-requires g c =
    ap (λ s. g.L.DecisionLog.belongs_to s.pass) c.index_mut.ensures.value
    ∙ c.loop-index.invariant.1 c.loop-index.index c.index_mut.result.now
    (omega (arith, c.loop-index-test.true, c.loop-index.others.ok.0, c.args.others.now.ok.0, c.loop-index.invariant.4))

pub returns-clause-seen : goal.returns-clause-seen
returns-clause-seen g c k d below =
    c.loop-index.invariant.0.seen k d (omega arith) (omega
    (arith, below, c.loop-index-test.false, c.args.others.now.ok.0, c.loop-index.invariant.4))

pub returns-clause-whole : goal.returns-clause-whole
returns-clause-whole g c all =
    let w =
    c.loop-index.invariant.0.whole all in (
      w.0,
      λ k d below. w.1 k d (omega arith)
          (omega (arith, below, c.loop-index-test.false, c.args.others.now.ok.0, c.loop-index.invariant.4)),
    )
