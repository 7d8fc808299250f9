use Rattle.std.proofs.Common.{inl, inr, arith}
use Rattle.xa_judge.proofs.{Places.length_map, Loops.{settles_step, settles_reach}, Late.settled_only}
use Rattle.xa_judge.specs.Found.{config_of}
use Rattle.xa_judge.proofs.closing.settle_all.Goals as goal

pub loop-one-preserved : goal.loop-one-preserved
loop-one-preserved c =
    let first = c.args.known.items in
    let known = c.loop-one.known.items in
    let rest = c.pop.new.self.items in
    let list = c.loop-one.list.items in
    let new = c.push.new.self.items in
    record {
      has =
          settles_step c.args.session first known rest list new c.in-Some.one c.in_ok-settled.field-0
          c.in-Some.ensures.items c.in_ok-push.ensures.items
          c.in_ok-settled.ensures.config c.loop-one.invariant.has;
      reach =
          settles_reach c.args.session first known rest list new c.in-Some.one c.in_ok-settled.field-0
          c.in-Some.ensures.items c.in_ok-push.ensures.items
          c.in_ok-settled.ensures.reach c.loop-one.invariant.reach;
      only =
          settled_only c.args.session first known rest list new c.in-Some.one c.in_ok-settled.field-0
          c.in-Some.ensures.items c.in_ok-push.ensures.items
          c.in_ok-settled.ensures.config c.loop-one.invariant.only;
    }

pub returns-clause-has : goal.returns-clause-has
returns-clause-has c = λ one has. elim (c.loop-one.invariant.has one has) [
  | inl rest ↦ absurd
      (omega (
        arith,
        rest.1,
        length_map config_of c.loop-one.known.items,
        c.in_default.ensures.cases.0,
        c.loop-one.known.ok.0,
      ))
  | inr done ↦ done
]
