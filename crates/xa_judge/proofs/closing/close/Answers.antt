use Rattle.std.proofs.{Common.{length, ap, arith}, lemmas.List.length-append}
use Rattle.xa_judge.{specs.Late.at_once, proofs.{Growth.{grows_none, grows_more}, Late.reached_more, Loops.closed_more}}
use Rattle.xa_judge.proofs.closing.close.Goals as goal

pub loop-place-init : goal.loop-place-init
loop-place-init c = record {
  grows = grows_none c.args.known.now.items;
  closed = λ place one below. absurd (omega (arith, below));
  within = omega arith;
  only = λ config has. at_once config has;
}

pub loop-place-preserved : goal.loop-place-preserved
loop-place-preserved c =
    let now = c.loop-place.known.items in
    let new = c.expand.new.known.items in
    let grows = c.in_ok-expand.ensures.grows in
    record {
      grows = grows_more c.args.known.now.items now new c.loop-place.invariant.grows grows;
      closed =
          closed_more c.loop-place.place c.args.returning.now now new
          (omega (arith, c.loop-place-test.true, c.len.ensures, c.loop-place.known.ok.0)) c.loop-place.invariant.closed
          grows c.in_ok-expand.ensures.all;
      within =
          omega (
            arith,
            c.loop-place-test.true,
            c.len.ensures,
            c.loop-place.known.ok.0,
            c.expand.new.known.ok.0,
            ap length grows.parts,
            length-append now grows.more,
          );
      only =
          reached_more c.args.known.now.items now new c.loop-place.place c.args.returning.now
          (omega (arith, c.loop-place-test.true, c.len.ensures, c.loop-place.known.ok.0)) c.loop-place.invariant.only
          c.in_ok-expand.ensures.only;
    }
