use Rattle.std.proofs.{Common.{◌≡◌, ◌<◌, length, get_or, refl, ap, sym, subst, ◌∙◌, arith}, lemmas.List.length-set}
use Rattle.std.proofs.lemmas.List.Elements.{All-set, AllWithin-more_set, AllWithin-none}
use Rattle.decision_log.specs.History.{Begins}
use Rattle.chain_log.specs.RingPass.{log_of}
use Rattle.xa_endless.specs.declared.session.EndlessSession.{EndlessSession}
use Rattle.xa_store.proofs.Gathering.{meets_nobody, meets_again, zip_itself}
use Rattle.xa_races.{specs.Long.{known_in, Keeps}, proofs.Statements.same_log}
use Rattle.xa_races.proofs.Gathering.{stays_itself, stays_through, zip_set}
use Rattle.xa_races.proofs.meeting.tell_each.Goals as goal

pub loop-index-init : goal.loop-index-init
loop-index-init c = (
  zip_itself Keeps stays_itself c.args.others.now.items,
  c.requires,
  refl,
  meets_nobody (known_in c.args.last.now),
  AllWithin-none (λ session. Begins (known_in c.args.last.now).seen (known_in session).seen) c.args.others.now.items 0,
  refl,
  refl,
)

pub loop-index-preserved : goal.loop-index-preserved
loop-index-preserved c =
    let inv = c.loop-index.invariant in
    let met = c.index_mut.result.now in
    let here = c.index_mut.ensures.value in
    let new = c.meet.new.other in
    let last = c.meet.new.self in
    let second = c.meet.ensures.second in
    let below : c.loop-index.index < length c.loop-index.others.items =
    omega (arith, c.loop-index-test.true, c.loop-index.others.ok.0, c.args.others.now.ok.0, inv.5) in
    let told : log_of last.member.pass ≡ log_of c.loop-index.last.member.pass =
    same_log c.loop-index.last last c.meet.ensures.store in
    let own : log_of new.member.pass ≡ log_of met.member.pass = same_log met new c.meet.ensures.other in
    let keeps : Keeps met new = record {
      store = c.meet.ensures.other;
      adds_nothing =
          record {
            number = second.number;
            seen = second.seen;
            mine = second.mine;
            looks = second.looks;
            tries = second.tries;
          };
    } in (
      zip_set Keeps stays_through c.args.others.now.items c.loop-index.others.items c.loop-index.index new met below
          inv.0
          (subst (λ (s : EndlessSession). Keeps s new) here keeps),
      All-set (λ (session : EndlessSession). log_of session.member.pass
          ≡ log_of last.member.pass) c.loop-index.others.items c.loop-index.index new
          (own ∙ ap (λ (s : EndlessSession). log_of s.member.pass) here ∙ inv.1 c.loop-index.index met below ∙ sym told)
          (λ k d below. inv.1 k d below ∙ sym told),
      c.meet.ensures.store ∙ inv.2,
      meets_again (known_in c.args.last.now) (known_in c.loop-index.last) (known_in last) inv.3 c.meet.ensures.first,
      AllWithin-more_set c.loop-index.others.items c.loop-index.index new below
          (λ session. Begins (known_in c.args.last.now).seen (known_in session).seen)
          inv.4 (subst (λ list. Begins list (known_in new).seen) inv.3.seen second.whole),
      length-set c.loop-index.others.items c.loop-index.index new ∙ inv.5,
      inv.6,
    )

pub index_mut-requires : goal.index_mut-requires
index_mut-requires c =
    omega (arith, c.loop-index-test.true, c.loop-index.others.ok.0, c.args.others.now.ok.0, c.loop-index.invariant.5)

pub meet-requires : goal.meet-requires
meet-requires c =
    sym (ap (λ (s : EndlessSession). log_of s.member.pass) c.index_mut.ensures.value
    ∙ c.loop-index.invariant.1 c.loop-index.index c.index_mut.result.now
    (omega (arith, c.loop-index-test.true, c.loop-index.others.ok.0, c.args.others.now.ok.0, c.loop-index.invariant.5)))

pub returns-clause-told : goal.returns-clause-told
returns-clause-told c k d below =
    let inv = c.loop-index.invariant in
    subst (λ list. Begins list (known_in (get_or c.loop-index.others.items k d)).seen) (sym inv.3.seen)
    (inv.4 k d (omega arith) (omega (arith, below, c.loop-index-test.false, c.args.others.now.ok.0, inv.5)))
