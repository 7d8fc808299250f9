use Rattle.std.proofs.{Common.{◌≡◌, ◌∙◌, sym, ap, None, arith}, lemmas.Option.{none-some, same_Some}}
use Rattle.std.specs.Option.{option_map}
use Rattle.xa_judge.{specs.{Explained.effect_of, Found.config_of}, proofs.{Places.stands_at, Loops.effect_added}}
use Rattle.xa_judge.proofs.Late.{adds_none, adds_effect}
use Rattle.xa_judge.proofs.known.add_effect.Goals as goal

pub returns-in_ok-add_next-in-Some-clause-grows : goal.returns-in_ok-add_next-in-Some-clause-grows
returns-in_ok-add_next-in-Some-clause-grows c =
    (effect_added c.args.known.now.items c.add_next.new.known.items c.args.place c.index.result.now c.in-Some.next
    c.in_ok-effected.field-0 c.args.session
    c.args.act (stands_at c.args.known.now.items c.args.place c.index.result.now
    (omega (arith, c.requires, c.args.known.now.ok.0)) c.index.ensures)
    c.in_ok-effected.ensures.session c.in_ok-effected.ensures.config c.in_ok-effected.ensures.path c.in-Some.is
    c.in_ok-add_next-in-Some.ensures).0

pub returns-in_ok-add_next-in-Some-clause-has : goal.returns-in_ok-add_next-in-Some-clause-has
returns-in_ok-add_next-in-Some-clause-has c =
    (effect_added c.args.known.now.items c.add_next.new.known.items c.args.place c.index.result.now c.in-Some.next
    c.in_ok-effected.field-0 c.args.session
    c.args.act (stands_at c.args.known.now.items c.args.place c.index.result.now
    (omega (arith, c.requires, c.args.known.now.ok.0)) c.index.ensures)
    c.in_ok-effected.ensures.session c.in_ok-effected.ensures.config c.in_ok-effected.ensures.path c.in-Some.is
    c.in_ok-add_next-in-Some.ensures).1

pub returns-in_ok-add_next-in-Some-clause-only : goal.returns-in_ok-add_next-in-Some-clause-only
returns-in_ok-add_next-in-Some-clause-only c =
    adds_effect c.args.known.now.items c.add_next.new.known.items c.args.place c.index.result.now c.in-Some.next
    c.in_ok-effected.field-0 c.args.session
    c.args.act (stands_at c.args.known.now.items c.args.place c.index.result.now
    (omega (arith, c.requires, c.args.known.now.ok.0)) c.index.ensures)
    c.in_ok-effected.ensures.session c.in_ok-effected.ensures.config c.in-Some.is
    c.in_ok-add_next-in-Some.ensures

pub returns-in-None-clause-only : goal.returns-in-None-clause-only
returns-in-None-clause-only c = λ one returning at apart unanswered.
    adds_none returning (config_of one) c.args.known.now.items

pub add_next-requires-clause-leads : goal.add_next-requires-clause-leads
add_next-requires-clause-leads c = record {
  before = c.index.result.now;
  at = stands_at c.args.known.now.items c.args.place c.index.result.now
      (omega (arith, c.requires, c.args.known.now.ok.0)) c.index.ensures;
  leads = sym c.in_ok-effected.ensures.config ∙ ap (option_map config_of) c.in-Some.is;
}

pub returns-in-None-clause-has : goal.returns-in-None-clause-has
returns-in-None-clause-has c = λ one new at leads.
    let there =
    stands_at c.args.known.now.items c.args.place c.index.result.now
    (omega (arith, c.requires, c.args.known.now.ok.0)) c.index.ensures in
    let same : c.index.result.now ≡ one = same_Some c.index.result.now one (sym there ∙ at) in
    let none : None ≡ effect_of (config_of one) c.args.session c.args.act =
    sym (ap (option_map config_of) c.in-None.is) ∙ c.in_ok-effected.ensures.config
    ∙ ap (λ o. effect_of (config_of o) c.args.session c.args.act) same in
    absurd (none-some new (none ∙ leads))
