use Rattle.std.proofs.{Common.{◌≡◌, ◌<◌, length, refl, ap, sym, subst, ◌∙◌, arith}, lemmas.List.length-set}
use Rattle.std.proofs.lemmas.List.Elements.{All-set}
use Rattle.decision_log.specs.Calls.{MeetsSecond}
use Rattle.chain_log.specs.RingPass.{log_of}
use Rattle.xa_endless.specs.declared.session.EndlessSession.{EndlessSession}
use Rattle.xa_store.proofs.Gathering.{no_round, next_round}
use Rattle.xa_races.{specs.Long.known_in, proofs.{Statements.same_log, Gathering.{Meets, meets_itself, meets_through}}}
use Rattle.xa_races.proofs.meeting.meet_each.Goals as goal

pub loop-index-init : goal.loop-index-init
loop-index-init c = (
  no_round known_in Meets meets_itself meets_through (λ old new s. s.1) c.args.others.now.items
      (known_in c.args.last.now),
  c.requires,
  refl,
  refl,
  refl,
)

pub loop-index-preserved : goal.loop-index-preserved
loop-index-preserved c =
    let inv = c.loop-index.invariant in
    let met = c.index_mut.result.now in
    let here = c.index_mut.ensures.value in
    let new = c.meet.new.self in
    let last = c.meet.new.other in
    let below : c.loop-index.index < length c.loop-index.others.items =
    omega (arith, c.loop-index-test.true, c.loop-index.others.ok.0, c.args.others.now.ok.0, inv.3) in
    let told : log_of last.member.pass ≡ log_of c.loop-index.last.member.pass =
    same_log c.loop-index.last last c.meet.ensures.other in
    let own : log_of new.member.pass ≡ log_of met.member.pass = same_log met new c.meet.ensures.store in (
      next_round known_in Meets meets_itself meets_through
          (λ old new s. s.1) c.args.others.now.items c.loop-index.others.items (known_in c.args.last.now)
          (known_in c.loop-index.last) (known_in last) c.loop-index.index met new below inv.0
          (subst (λ (s : EndlessSession). Meets s new) here (c.meet.ensures.store, c.meet.ensures.first))
          (subst (λ (s : EndlessSession). MeetsSecond (known_in s) (known_in c.loop-index.last)
          (known_in last)) here c.meet.ensures.second),
      All-set (λ (session : EndlessSession). log_of session.member.pass
          ≡ log_of last.member.pass) c.loop-index.others.items c.loop-index.index new
          (own ∙ ap (λ (s : EndlessSession). log_of s.member.pass) here ∙ inv.1 c.loop-index.index met below ∙ sym told)
          (λ k d below. inv.1 k d below ∙ sym told),
      c.meet.ensures.other ∙ inv.2,
      length-set c.loop-index.others.items c.loop-index.index new ∙ inv.3,
      inv.4,
    )

pub index_mut-requires : goal.index_mut-requires
index_mut-requires c =
    omega (arith, c.loop-index-test.true, c.loop-index.others.ok.0, c.args.others.now.ok.0, c.loop-index.invariant.3)

pub meet-requires : goal.meet-requires
meet-requires c =
    ap (λ (s : EndlessSession). log_of s.member.pass) c.index_mut.ensures.value
    ∙ c.loop-index.invariant.1 c.loop-index.index c.index_mut.result.now
    (omega (arith, c.loop-index-test.true, c.loop-index.others.ok.0, c.args.others.now.ok.0, c.loop-index.invariant.3))

pub returns-clause-seen : goal.returns-clause-seen
returns-clause-seen c k d below =
    c.loop-index.invariant.0.seen k d (omega arith) (omega
    (arith, below, c.loop-index-test.false, c.args.others.now.ok.0, c.loop-index.invariant.3))

pub returns-clause-whole : goal.returns-clause-whole
returns-clause-whole c all =
    let w =
    c.loop-index.invariant.0.whole all in (
      w.0,
      λ k d below. w.1 k d (omega arith)
          (omega (arith, below, c.loop-index-test.false, c.args.others.now.ok.0, c.loop-index.invariant.3)),
    )
