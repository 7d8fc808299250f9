use Rattle.std.proofs.Common.{◌+◌, ◌<◌, ◌≤◌, true, List, [], ◌∷◌, ◌++◌, length, take, refl, ap, sym, ◌∙◌, subst, rules}
use Rattle.std.proofs.{Common.arith, lemmas.{List.{take_all, take_more}, Option.slice_get_read}}
use Rattle.xa_session.specs.{Answer.IsAnswered, declared.answer.Answer.Answer}
use Rattle.xa_store.proofs.Legality.{IsOnTheWay, sets_out, goes_on, lets_in_more, no_further, stops}
use Rattle.xa_store.specs.Legal.{IsLegal, Halts, GoesNoFurther, Stops}
use Rattle.xa_store.proofs.answering.answers_to.Goals as goal

pub loop-index-init : goal.loop-index-init
loop-index-init g c =
    let known = g.L.DecisionLog.known c.args.session.now.pass in (
      refl,
      refl,
      subst (λ items. IsOnTheWay c.args.session.now.base.now known known [] items) (sym c.in_ok-answers.ensures.items)
          (sets_out c.args.session.now.base.now known (g.met.L.DecisionLog.own_part c.args.session.now.pass)),
      search rules,
      search rules,
      λ line below. absurd (omega arith),
    )

pub loop-index-preserved : goal.loop-index-preserved
loop-index-preserved g c =
    let inv = c.loop-index.invariant in
    let base = c.args.session.now.base.now in
    let known = g.L.DecisionLog.known in
    let statement = c.index-lines-index.result in
    let below : c.loop-index.index < length c.args.lines.now = omega (arith, c.loop-index-test.true) in
    let taken =
    take_more c.args.lines.now c.loop-index.index statement below
    ∙ ap (λ one. take c.loop-index.index c.args.lines.now ++ one ∷ []) (sym c.index-lines-index.is) in
    let told = c.in_ok-answer.ensures in
    let way =
    goes_on base (known c.args.session.now.pass) (known c.loop-index.session.pass) (known c.answer_one.new.session.pass)
    (take c.loop-index.index c.args.lines.now) c.loop-index.answers.items
    statement c.in_ok-answer.answer
    (g.met.L.DecisionLog.own_part c.loop-index.session.pass)
    (g.met.L.DecisionLog.own_part c.answer_one.new.session.pass) inv.2
    (subst (λ b. IsAnswered b statement c.in_ok-answer.answer (known c.loop-index.session.pass)
    (known c.answer_one.new.session.pass)) inv.0 told.ends.answered) in (
      told.stays.base ∙ inv.0,
      told.stays.belongs ∙ inv.1,
      subst (λ items. IsOnTheWay base (known c.args.session.now.pass) (known c.answer_one.new.session.pass)
          (take (c.loop-index.index + 1) c.args.lines.now) items)
          (sym {A = List Answer} c.push_reserved.ensures.items)
          (subst (λ lines. IsOnTheWay base (known c.args.session.now.pass) (known c.answer_one.new.session.pass) lines
          (c.loop-index.answers.items ++ c.in_ok-answer.answer ∷ [])) (sym taken) way),
      omega (arith, c.push_reserved.ensures.len, inv.3),
      omega (arith, c.push_reserved.ensures.capacity, inv.4),
      lets_in_more (g.G.Gate.may_answer c.args.gate.now) (known c.args.session.now.pass).number c.loop-index.index inv.5
          (subst (λ n. g.G.Gate.may_answer c.args.gate.now n c.loop-index.index true) inv.2.number told.ends.opened),
    )

pub push_reserved-requires : goal.push_reserved-requires
push_reserved-requires g c = omega (arith, c.loop-index-test.true, c.loop-index.invariant.3, c.loop-index.invariant.4)

pub returns-clause-ok : goal.returns-clause-ok
returns-clause-ok g c =
    let inv = c.loop-index.invariant in
    let base = c.args.session.now.base.now in
    let old = g.L.DecisionLog.known c.args.session.now.pass in
    let lines = c.args.lines.now in
    let past : length lines ≤ c.loop-index.index = omega (arith, c.loop-index-test.false) in
    record {
      same_base = inv.0;
      same_log = inv.1;
      answered = record {
        number = inv.2.number;
        legal =
            subst (λ given. IsLegal base (g.L.DecisionLog.known c.loop-index.session.pass).seen old given
            c.loop-index.answers.items)
            (take_all c.loop-index.index lines past) inv.2.legal;
        opened = λ line below. inv.5 line (omega (arith, below, past));
      };
    }

pub returns-in_err-answer-clause-fault : goal.returns-in_err-answer-clause-fault
returns-in_err-answer-clause-fault g c =
    let inv = c.loop-index.invariant in
    let known = g.L.DecisionLog.known in
    let may = g.G.Gate.may_answer c.args.gate.now in
    let place = c.loop-index.index in
    let lines = c.args.lines.now in
    let statement = c.index-lines-index.result in
    let fault = c.in_err-answer.field-0.0 in
    let now = known c.loop-index.session.pass in
    let new = known c.answer_one.new.session.pass in
    let below : place < length lines = omega (arith, c.loop-index-test.true) in
    let halts : Halts may c.args.session.now.base.now (g.L.DecisionLog.belongs_to c.args.session.now.pass).capacity
    statement place fault now new =
    subst (λ base. Halts may base (g.L.DecisionLog.belongs_to c.args.session.now.pass).capacity statement place fault
    now new) inv.0
    (subst (λ identity. Halts may c.loop-index.session.base.now identity.capacity statement place fault now new) inv.1
    c.in_err-answer.ensures.ends) in
    let stopped : Stops may c.args.session.now.base.now (g.L.DecisionLog.belongs_to c.args.session.now.pass).capacity
    (known c.args.session.now.pass) lines fault =
    stops may c.args.session.now.base.now (g.L.DecisionLog.belongs_to c.args.session.now.pass).capacity
    (known c.args.session.now.pass) now new lines c.loop-index.answers.items place statement fault below
    (slice_get_read lines (length lines) place statement refl below c.index-lines-index.is)
    (g.met.L.DecisionLog.own_part c.loop-index.session.pass)
    (g.met.L.DecisionLog.own_part c.answer_one.new.session.pass) inv.2 halts in
    search rules

pub returns-in_err-answer-clause-rest : goal.returns-in_err-answer-clause-rest
returns-in_err-answer-clause-rest g c =
    let inv = c.loop-index.invariant in
    let known = g.L.DecisionLog.known in
    let may = g.G.Gate.may_answer c.args.gate.now in
    let place = c.loop-index.index in
    let lines = c.args.lines.now in
    let base = c.args.session.now.base.now in
    let identity = g.L.DecisionLog.belongs_to c.args.session.now.pass in
    let statement = c.index-lines-index.result in
    let fault = c.in_err-answer.field-0.0 in
    let now = known c.loop-index.session.pass in
    let new = known c.answer_one.new.session.pass in
    let below : place < length lines = omega (arith, c.loop-index-test.true) in
    let halts : Halts may base identity.capacity statement place fault now new =
    subst (λ b. Halts may b identity.capacity statement place fault now new) inv.0
    (subst (λ i. Halts may c.loop-index.session.base.now i.capacity statement place fault now new) inv.1
    c.in_err-answer.ensures.ends) in
    let further : GoesNoFurther base (known c.args.session.now.pass) lines fault new =
    no_further may base identity.capacity (known c.args.session.now.pass) now new lines c.loop-index.answers.items place
    statement fault below
    (g.met.L.DecisionLog.own_part c.loop-index.session.pass)
    (g.met.L.DecisionLog.own_part c.answer_one.new.session.pass) inv.2 halts in
    search rules
