use Rattle.std.proofs.Common.{◌≡◌, length, map, refl, ap, sym, subst, ◌∙◌, ⊎_elim, rules}
use Rattle.std.{proofs.lemmas.List.Elements.{All-from_recursion, recursion_from_All}, specs.List.AllZip}
use Rattle.xa_store.specs.{Passes.{identity_of, log_of, known_of}, Closed.HasLeft, Lowest.TellsLowest}
use Rattle.xa_store.specs.{Legal.{IsLegal, IsReturned, LetsIn, Stops, Blames}, Spread.HasAnswered, declared.run.Run.Run}
use Rattle.xa_store.proofs.{Races.{legal_in, blames}, Telling.tells}
use Rattle.xa_store.proofs.Spreading.{zip_chain, zip_ended, zip_first, zip_all, zip_unmapped, zip_get, map_twice}
use Rattle.xa_store.proofs.racing.race.Goals as goal

pub close_all-requires : goal.close_all-requires
close_all-requires g c =
    let identity = identity_of c.args.store.now.log in
    let runs = c.args.runs.items in
    let started = c.in_ok-started.started.items in
    let returned = c.in_ok-returned.returned.items in
    let went : AllZip (λ run one. log_of one.session.pass ≡ log_of run.pass) runs returned =
    zip_chain _ _ _ (λ run started one is was. was.same_log
    ∙ ap log_of is.1) runs started returned c.in_ok-started.ensures c.in_ok-returned.ensures.ok in
    All-from_recursion (λ one. log_of one.session.pass ≡ identity) returned
    (zip_all _ (λ run. log_of run.pass ≡ identity) (λ one. log_of one.session.pass ≡ identity)
    (λ run one is belongs. is ∙ belongs) runs returned went
    (recursion_from_All (λ run. log_of run.pass ≡ identity) runs c.requires))

pub returns-in_err-returned-clause-fault : goal.returns-in_err-returned-clause-fault
returns-in_err-returned-clause-fault g c =
    let may = g.G.Gate.may_answer in
    let base = c.args.store.now.base in
    let fault = c.in_err-returned.field-0.0.fault in
    let blamed : Blames (may c.args.gate.now) base c.args.runs.items fault =
    ⊎_elim
    (λ memory. subst (λ one. Blames (may c.args.gate.now) base c.args.runs.items one) (sym memory) tt)
    (λ rest. ⊎_elim (λ refused. subst (λ one. Blames (may c.args.gate.now) base c.args.runs.items one) (sym refused) tt)
    (λ at.
    let run = zip_get _ c.args.runs.items c.in_ok-started.started.items at.index at.run c.in_ok-started.ensures
    at.found in
    let pass = at.run.session.pass in
    blames (may c.args.gate.now) base c.args.runs.items at.index run.0 fault run.1
    (subst (λ one. Stops (may one) base (log_of run.0.pass).capacity
    (known_of run.0.pass) run.0.lines.items fault) run.2.3
    (subst (λ b. Stops (may at.run.gate.now) b (log_of run.0.pass).capacity
    (known_of run.0.pass) run.0.lines.items fault) run.2.0
    (subst (λ p. Stops (may at.run.gate.now) at.run.session.base.now (log_of p).capacity
    (known_of p) run.0.lines.items fault) run.2.1
    (subst (λ items. Stops (may at.run.gate.now) at.run.session.base.now (log_of pass).capacity
    (known_of pass) items fault) run.2.2 at.cause)))))
    rest)
    c.in_err-returned.ensures.err in
    search rules

pub returns-in_err-returned-clause-lowest : goal.returns-in_err-returned-clause-lowest
returns-in_err-returned-clause-lowest g c =
    let may = g.G.Gate.may_answer in
    let base = c.args.store.now.base in
    let gate = may c.args.gate.now in
    let told = c.in_err-returned.field-0.0 in
    let lowest : TellsLowest gate base c.args.runs.items told.fault =
    tells _ _ _ gate base _ (λ run started is. ap (λ pass. (known_of pass).number) is.1)
    (λ run started one is was.
    record {
      known = known_of one.session.pass;
      answers = one.done.items;
      answered = subst (λ g. HasAnswered (may g) base (known_of run.pass)
          (known_of one.session.pass) run.lines.items one.done.items) is.3
          (subst (λ lines. HasAnswered (may started.gate.now) base (known_of run.pass)
          (known_of one.session.pass) lines one.done.items) is.2
          (subst (λ pass. HasAnswered (may started.gate.now) base (known_of pass)
          (known_of one.session.pass) started.lines.items one.done.items) is.1
          (subst (λ b. HasAnswered (may started.gate.now) b (known_of started.session.pass)
          (known_of one.session.pass) started.lines.items one.done.items) is.0
          was.answered)));
    })
    (λ run started fault is stops.
    subst (λ g. Stops (may g) base (log_of run.pass).capacity (known_of run.pass) run.lines.items fault) is.3
    (subst (λ b. Stops (may started.gate.now) b (log_of run.pass).capacity
    (known_of run.pass) run.lines.items fault) is.0
    (subst (λ p. Stops (may started.gate.now) started.session.base.now (log_of p).capacity
    (known_of p) run.lines.items fault) is.1
    (subst (λ items. Stops (may started.gate.now) started.session.base.now (log_of started.session.pass).capacity
    (known_of started.session.pass) items fault)
    is.2 stops))))
    c.args.runs.items c.in_ok-started.started.items told told.fault refl c.in_ok-started.ensures
    c.in_err-returned.ensures.lowest in
    search rules

pub returns-clause-legal : goal.returns-clause-legal
returns-clause-legal g c =
    let may = g.G.Gate.may_answer in
    let base = c.args.store.now.base in
    let runs = c.args.runs.items in
    let started = c.in_ok-started.started.items in
    let returned = c.in_ok-returned.returned.items in
    let closed = c.in_ok-closed.closed in
    let history = closed.history.items in
    let told = c.in_ok-closed.ensures in
    let went : AllZip (λ run one. (log_of one.session.pass ≡ log_of run.pass)
    × HasAnswered (may c.args.gate.now) base (known_of run.pass)
    (known_of one.session.pass) run.lines.items one.done.items) runs returned =
    zip_chain _ _ _
    (λ run started one is was. (
      was.same_log ∙ ap log_of is.1,
      subst (λ gate. HasAnswered (may gate) base (known_of run.pass)
          (known_of one.session.pass) run.lines.items one.done.items) is.3
          (subst (λ lines. HasAnswered (may started.gate.now) base (known_of run.pass)
          (known_of one.session.pass) lines one.done.items) is.2
          (subst (λ pass. HasAnswered (may started.gate.now) base (known_of pass)
          (known_of one.session.pass) started.lines.items one.done.items) is.1
          (subst (λ b. HasAnswered (may started.gate.now) b (known_of started.session.pass)
          (known_of one.session.pass) started.lines.items one.done.items) is.0
          was.answered))),
    ))
    runs started returned c.in_ok-started.ensures c.in_ok-returned.ensures.ok in
    let left = zip_unmapped (HasLeft history) (λ one. one.session.pass) returned closed.passes.items told.closed.left in
    record {
      legal =
          subst (λ all. AllZip (λ run. IsLegal base history (known_of run.pass) run.lines.items) runs all)
          (sym (map_twice (λ one. one.done) (λ answers. answers.items) returned)
          ∙ ap (map (λ answers. answers.items)) (sym told.done))
          (zip_ended _ _ (λ run answers. IsLegal base history (known_of run.pass) run.lines.items answers)
          (λ one. one.done.items)
          (λ run one pass is after.
          legal_in (may c.args.gate.now) base history (known_of run.pass) (known_of one.session.pass)
          (known_of pass) run.lines.items one.done.items
          one.session.pass.state.part is.1 after.adds_nothing after.taken_in)
          runs returned closed.passes.items went left);
      passes =
          zip_chain _ _ (IsReturned history)
          (λ run one pass is after.
          record {
            belongs = after.same_log ∙ is.0;
            number = after.adds_nothing.number
                ∙ is.1.number;
            taken_in = after.taken_in;
          })
          runs returned closed.passes.items went left;
      history = told.closed.last;
    }

pub returns-clause-opened : goal.returns-clause-opened
returns-clause-opened g c =
    let may = g.G.Gate.may_answer in
    let runs = c.args.runs.items in
    let lets_in : Run → Type 0 = λ run. LetsIn (may c.args.gate.now) (known_of run.pass).number
    (length run.lines.items) in
    let went : AllZip (λ run one. lets_in run) runs c.in_ok-returned.returned.items =
    zip_chain _ _ _
    (λ run started one is was.
    subst (λ gate. LetsIn (may gate) (known_of run.pass).number (length run.lines.items)) is.3
    (subst (λ lines. LetsIn (may started.gate.now) (known_of run.pass).number (length lines)) is.2
    (subst (λ pass. LetsIn (may started.gate.now) (known_of pass).number
    (length started.lines.items)) is.1 was.answered.opened)))
    runs c.in_ok-started.started.items c.in_ok-returned.returned.items c.in_ok-started.ensures
    c.in_ok-returned.ensures.ok in
    All-from_recursion lets_in runs (zip_first _ lets_in (λ run one is. is) runs c.in_ok-returned.returned.items went)
