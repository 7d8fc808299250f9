use Rattle.std.proofs.Common.{◌≡◌, ◌+◌, ◌<◌, List, [], ◌∷◌, ◌++◌, true, length, take, refl, ap, sym, ◌∙◌, subst, rules}
use Rattle.std.proofs.{Common.arith, lemmas.List.{take_more, length-append, Elements.{All-nil, All-append}}}
use Rattle.std.{proofs.lemmas.Option.slice_get_read, specs.List.All}
use Rattle.xa_server.specs.State.{no_state}
use Rattle.xa_session.specs.declared.answer.Answer.{Answer}
use Rattle.xa_store.proofs.Legality.{IsOnTheWay, sets_out, goes_on, lets_in_more}
use Rattle.xa_races.specs.{Long.{known_in, IsAddedBy, StopsAt}, declared.{added.Added.Added, said.Said.Said}}
use Rattle.xa_races.proofs.Statements.{added_longer, own_part, stops_at, halts_begins}
use Rattle.xa_races.proofs.saying.say_all.Goals as goal

pub loop-index-init : goal.loop-index-init
loop-index-init g c =
    let known = known_in c.args.session.now in (
      refl,
      subst (λ items. IsOnTheWay no_state known known [] items) (sym c.requires.none)
          (sets_out no_state known (own_part c.args.session.now)),
      subst (λ items. All (IsAddedBy known.seen known.number) items) (sym c.requires.nothing)
          (All-nil (IsAddedBy known.seen known.number)),
      ap length c.requires.none,
      (let none : length c.args.said.now.added.items ≡ 0 = ap length c.requires.nothing in omega (arith, none)),
      refl,
      refl,
      λ line below. absurd (omega arith),
    )

pub loop-index-preserved : goal.loop-index-preserved
loop-index-preserved g c =
    let inv = c.loop-index.invariant in
    let before = known_in c.args.session.now in
    let now = known_in c.loop-index.session in
    let new = known_in c.say_one.new.session in
    let statement = c.index-lines-index.result in
    let below : c.loop-index.index < length c.args.lines.now = omega (arith, c.loop-index-test.true) in
    let taken =
    take_more c.args.lines.now c.loop-index.index statement below
    ∙ ap (λ one. take c.loop-index.index c.args.lines.now ++ one ∷ []) (sym c.index-lines-index.is) in
    let said = c.in_ok-say_one.ensures.ok in
    let way =
    goes_on no_state before now new (take c.loop-index.index c.args.lines.now) c.loop-index.said.answers.items statement
    said.answer
    (own_part c.loop-index.session) (own_part c.say_one.new.session) inv.1 said.let_in.answered in
    let own : All (IsAddedBy new.seen before.number) said.added =
    subst (λ n. All (IsAddedBy new.seen n) said.added) inv.1.number said.own in
    let all : All (IsAddedBy new.seen before.number) (c.loop-index.said.added.items ++ said.added) =
    All-append (IsAddedBy new.seen before.number) c.loop-index.said.added.items said.added
    (added_longer now.seen new.seen before.number c.loop-index.said.added.items said.let_in.answered.advances.seen
    inv.2) own in (
      c.in_ok-say_one.ensures.store ∙ inv.0,
      subst (λ items. IsOnTheWay no_state before new (take (c.loop-index.index + 1) c.args.lines.now) items)
          (sym {A = List Answer} said.answers)
          (subst (λ lines. IsOnTheWay no_state before new lines (c.loop-index.said.answers.items ++ said.answer ∷ []))
          (sym taken) way),
      subst (λ items. All (IsAddedBy new.seen before.number) items) (sym {A = List Added} said.more) all,
      (let long = ap length said.answers ∙ length-append c.loop-index.said.answers.items (said.answer ∷ []) in
          omega (arith, long, inv.3)),
      (let long = ap length said.more ∙ length-append c.loop-index.said.added.items said.added in
          omega (arith, long, inv.4, said.few)),
      c.in_ok-say_one.ensures.answers ∙ inv.5,
      c.in_ok-say_one.ensures.added ∙ inv.6,
      lets_in_more (g.G.Gate.may_answer c.args.gate.now) before.number c.loop-index.index inv.7
          (subst (λ n. g.G.Gate.may_answer c.args.gate.now n c.loop-index.index true) inv.1.number said.let_in.opened),
    )

pub returns-in_err-say_one-clause-own : goal.returns-in_err-say_one-clause-own
returns-in_err-say_one-clause-own g c =
    let inv = c.loop-index.invariant in
    let now = known_in c.loop-index.session in
    let new = known_in c.say_one.new.session in
    let before = known_in c.args.session.now in
    let begins =
    halts_begins (g.G.Gate.may_answer c.args.gate.now) c.loop-index.index c.index-lines-index.result
    c.in_err-say_one.field-0.0 c.loop-index.session
    c.say_one.new.session c.in_err-say_one.ensures.fault in
    subst (λ (s : Said). All (IsAddedBy new.seen before.number) s.added.items) (sym c.in_err-say_one.ensures.kept)
    (added_longer now.seen new.seen before.number c.loop-index.said.added.items begins inv.2)

pub returns-in_err-say_one-clause-fault : goal.returns-in_err-say_one-clause-fault
returns-in_err-say_one-clause-fault g c =
    let inv = c.loop-index.invariant in
    let may = g.G.Gate.may_answer c.args.gate.now in
    let place = c.loop-index.index in
    let lines = c.args.lines.now in
    let statement = c.index-lines-index.result in
    let fault = c.in_err-say_one.field-0.0 in
    let below : place < length lines = omega (arith, c.loop-index-test.true) in
    let stopped : StopsAt may (known_in c.args.session.now) lines fault c.say_one.new.session =
    stops_at may (known_in c.args.session.now) c.loop-index.session c.say_one.new.session lines
    c.loop-index.said.answers.items place statement fault below
    (slice_get_read lines (length lines) place statement refl below c.index-lines-index.is)
    c.in_err-say_one.ensures.store inv.1
    c.in_err-say_one.ensures.fault in
    search rules
