use Rattle.std.proofs.{Common.{length, ap, arith}, lemmas.List.length-append}
use Rattle.xa_judge.{specs.Foreseen.hints_of, proofs.ForeseenGrowth.{extends_none, extends_more, closed_more}}
use Rattle.xa_judge.proofs.foreseeing.close.Goals as goal

pub loop-place-init : goal.loop-place-init
loop-place-init c = record {
  grows = extends_none c.args.known.now.items;
  closed = λ place one below. absurd (omega (arith, below));
  within = omega arith;
}

pub loop-place-preserved : goal.loop-place-preserved
loop-place-preserved c =
    let now = c.loop-place.known.items in
    let new = c.expand.new.known.items in
    let grows = c.in_ok-expand.ensures.grows in
    record {
      grows = extends_more c.args.known.now.items now new c.loop-place.invariant.grows grows;
      closed =
          closed_more (hints_of c.args.events.now c.args.places.now) c.args.session c.loop-place.place now new
          (omega (arith, c.loop-place-test.true, c.len.ensures, c.loop-place.known.ok.0)) grows
          c.loop-place.invariant.closed c.in_ok-expand.ensures.all;
      within =
          omega (
            arith,
            c.loop-place-test.true,
            c.len.ensures,
            c.loop-place.known.ok.0,
            c.expand.new.known.ok.0,
            ap length grows.1,
            length-append now grows.0,
          );
    }
