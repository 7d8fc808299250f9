use Rattle.std.{proofs.Common.{◌≡◌, List, None, ap, sym, subst, ◌∙◌}, specs.{Prelude.slice_get, List.{All, AllZip}}}
use Rattle.xa_xid.specs.declared.statement.Statement.{Statement}
use Rattle.xa_endless.specs.declared.session.EndlessSession.{EndlessSession}
use Rattle.xa_store.proofs.Spreading.{zip_chain}
use Rattle.xa_races.{specs.{Long.HasRaced, declared.racer.Raced.Raced}, proofs.Ends.{of_one, is_outcome, blames_one}}
use Rattle.xa_races.proofs.long_racing.race_on.Goals as goal

pub returns-in-Some-clause-fault : goal.returns-in-Some-clause-fault
returns-in-Some-clause-fault g c =
    let may = g.G.Gate.may_answer in
    let runs = c.args.runs.items in
    let raced = c.in_ok-raced.raced.items in
    let went : AllZip (λ run one. HasRaced (may c.args.gate.now) run.session run.lines.items one) runs raced =
    zip_chain _ _ _
    (λ run racer one is was.
    subst (λ gate. HasRaced (may gate) run.session run.lines.items one) is.2
    (subst (λ (lines : List Statement). HasRaced (may racer.gate.now) run.session lines one) is.1
    (subst (λ (session : EndlessSession). HasRaced (may racer.gate.now) session racer.lines.items one) is.0 was)))
    runs c.in_ok-racers.racers.items raced c.in_ok-racers.ensures c.in_ok-raced.ensures.ok in
    let some = c.in-Some.ensures.some in
    blames_one (may c.args.gate.now) runs raced some.1 some.0 c.in-Some.fault went
    (ap (λ (l : List Raced). slice_get l some.1) (sym c.as_slice-2.ensures.value) ∙ some.2) some.3

pub settle-requires : goal.settle-requires
settle-requires g c =
    let may = g.G.Gate.may_answer in
    let runs = c.args.runs.items in
    let raced = c.in_ok-raced.raced.items in
    let went : AllZip (λ run one. HasRaced (may c.args.gate.now) run.session run.lines.items one) runs raced =
    zip_chain _ _ _
    (λ run racer one is was.
    subst (λ gate. HasRaced (may gate) run.session run.lines.items one) is.2
    (subst (λ (lines : List Statement). HasRaced (may racer.gate.now) run.session lines one) is.1
    (subst (λ (session : EndlessSession). HasRaced (may racer.gate.now) session racer.lines.items one) is.0 was)))
    runs c.in_ok-racers.racers.items raced c.in_ok-racers.ensures c.in_ok-raced.ensures.ok in
    of_one (may c.args.gate.now) c.args.store.now.value runs raced c.requires went

pub returns-clause-outcome : goal.returns-clause-outcome
returns-clause-outcome g c =
    let may = g.G.Gate.may_answer in
    let runs = c.args.runs.items in
    let raced = c.in_ok-raced.raced.items in
    let went : AllZip (λ run one. HasRaced (may c.args.gate.now) run.session run.lines.items one) runs raced =
    zip_chain _ _ _
    (λ run racer one is was.
    subst (λ gate. HasRaced (may gate) run.session run.lines.items one) is.2
    (subst (λ (lines : List Statement). HasRaced (may racer.gate.now) run.session lines one) is.1
    (subst (λ (session : EndlessSession). HasRaced (may racer.gate.now) session racer.lines.items one) is.0 was)))
    runs c.in_ok-racers.racers.items raced c.in_ok-racers.ensures c.in_ok-raced.ensures.ok in
    let none : All (λ (one : Raced). one.fault ≡ None) raced =
    subst (λ (l : List Raced). All (λ (one : Raced). one.fault ≡ None) l) c.as_slice-2.ensures.value
    (c.first_fault.ensures.none c.in_default.is) in
    is_outcome (may c.args.gate.now) c.args.from runs raced c.in_ok-outcome.outcome went none c.in_ok-outcome.ensures
