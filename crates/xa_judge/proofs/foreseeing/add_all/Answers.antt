use Rattle.std.proofs.{Common.{ap, arith, length}, lemmas.List.length-append}
use Rattle.xa_judge.specs.{Found.config_of, Foreseen.hints_of}
use Rattle.xa_judge.proofs.ForeseenGrowth.{extends_none, extends_more, still_at, expanded_more}
use Rattle.xa_judge.proofs.foreseeing.add_all.Goals as goal

pub loop-number-init : goal.loop-number-init
loop-number-init c = record {
  grows = extends_none c.args.known.now.items;
  all = λ one at session below is. absurd (omega (arith, below, is.0));
}

pub loop-number-preserved : goal.loop-number-preserved
loop-number-preserved c =
    let old = c.args.known.now.items in
    let now = c.loop-number.known.items in
    let new = c.add_number.new.known.items in
    record {
      grows = extends_more old now new c.loop-number.invariant.grows c.in_ok-add_number.ensures.grows;
      all = λ one at.
          expanded_more (hints_of c.args.events.now c.args.places.now) c.args.all.now c.loop-number.number
          (config_of one) now new
          c.in_ok-add_number.ensures.grows (c.loop-number.invariant.all one at)
          (c.in_ok-add_number.ensures.has one
          (still_at old now c.args.place one c.loop-number.invariant.grows at));
    }

pub add_number-requires-clause-place : goal.add_number-requires-clause-place
add_number-requires-clause-place c =
    omega (
      arith,
      c.requires,
      c.args.known.now.ok.0,
      c.loop-number.known.ok.0,
      ap length c.loop-number.invariant.grows.1,
      length-append c.args.known.now.items c.loop-number.invariant.grows.0,
    )
