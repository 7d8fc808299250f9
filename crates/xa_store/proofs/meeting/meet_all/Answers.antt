use Rattle.std.proofs.Common.{◌≡◌, ◌∙◌, sym, arith}
use Rattle.decision_log.{specs.Calls.MeetsFirst, proofs.Histories.begins_itself}
use Rattle.xa_store.proofs.Gathering.{meets_again, keeps_again, looks_keeps, zip_through, all_kept}
use Rattle.xa_store.proofs.meeting.meet_all.Goals as goal

pub meet_each-requires-2 : goal.meet_each-requires-2
meet_each-requires-2 g c =
    all_kept (λ old new. (new.base.now ≡ old.base.now) × (g.L.DecisionLog.belongs_to new.pass
    ≡ g.L.DecisionLog.belongs_to old.pass)
    × MeetsFirst (g.L.DecisionLog.known old.pass) (g.L.DecisionLog.known new.pass))
    (λ session. g.L.DecisionLog.belongs_to session.pass ≡ g.L.DecisionLog.belongs_to c.args.last.now.pass)
    (λ session. g.L.DecisionLog.belongs_to session.pass ≡ g.L.DecisionLog.belongs_to c.meet_each.new.last.pass)
    (λ old new step is. cc (step.1, is))
    c.args.others.now.items c.meet_each.new.others.items c.meet_each.ensures.others c.requires

pub returns-clause-others : goal.returns-clause-others
returns-clause-others g c =
    zip_through (λ old new. (new.base.now ≡ old.base.now)
    × (g.L.DecisionLog.belongs_to new.pass ≡ g.L.DecisionLog.belongs_to old.pass)
    × MeetsFirst (g.L.DecisionLog.known old.pass) (g.L.DecisionLog.known new.pass))
    (λ old now new s t. (
      t.0 ∙ s.0,
      t.1 ∙ s.1,
      meets_again (g.L.DecisionLog.known old.pass) (g.L.DecisionLog.known now.pass)
          (g.L.DecisionLog.known new.pass) s.2 t.2,
    ))
    c.args.others.now.items c.meet_each.new.others.items c.meet_each-2.new.others.items c.meet_each.ensures.others
    c.meet_each-2.ensures.others

pub meet_each-requires : goal.meet_each-requires
meet_each-requires g c = λ k d below. c.requires k d below ∙ sym c.look.ensures.belongs

pub returns-clause-room : goal.returns-clause-room
returns-clause-room g c = c.meet_each-2.ensures.room ∙ c.meet_each.ensures.room

pub returns-clause-base : goal.returns-clause-base
returns-clause-base g c = c.meet_each-2.ensures.base ∙ c.meet_each.ensures.base ∙ c.look.ensures.base

pub returns-clause-belongs : goal.returns-clause-belongs
returns-clause-belongs g c = c.meet_each-2.ensures.belongs ∙ c.meet_each.ensures.belongs ∙ c.look.ensures.belongs

pub returns-clause-last : goal.returns-clause-last
returns-clause-last g c =
    let old = g.L.DecisionLog.known c.args.last.now.pass in
    let looked = g.L.DecisionLog.known c.look.new.self.pass in
    let once = g.L.DecisionLog.known c.meet_each.new.last.pass in
    let twice = g.L.DecisionLog.known c.meet_each-2.new.last.pass in
    keeps_again old once twice (keeps_again old looked once
    (looks_keeps old looked c.look.ensures.looked) c.meet_each.ensures.last) c.meet_each-2.ensures.last

pub returns-clause-looked : goal.returns-clause-looked
returns-clause-looked g c =
    omega (arith, c.look.ensures.looked.looks, c.meet_each.ensures.last.looks, c.meet_each-2.ensures.last.looks)

pub returns-clause-taken_in : goal.returns-clause-taken_in
returns-clause-taken_in g c =
    let whole = c.meet_each-2.ensures.whole c.meet_each.ensures.seen in
    λ k d below. record { seen = c.meet_each-2.ensures.seen k d below; mine = whole.1 k d below }

pub returns-clause-own : goal.returns-clause-own
returns-clause-own g c =
    let last = c.meet_each-2.new.last.pass in
    record { seen = begins_itself (g.L.DecisionLog.known last).seen; mine = g.met.L.DecisionLog.own_part last }
