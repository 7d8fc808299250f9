use Rattle.std.proofs.Common.{◌≡◌, ◌<◌, ◌+◌, length, ap, arith, rules}
use Rattle.xa_judge.{specs.Told.no_report, proofs.{Told.report_more, Verdicts.some_shortened}}
use Rattle.xa_judge.proofs.searching.moves_within.Goals as goal

pub loop-place-init : goal.loop-place-init
loop-place-init g c =
    let one : length c.in_ok-beam.beam.known.items ≡ 1 =
    rw c.in_ok-beam.ensures (ap length c.in_ok-opening.ensures.1) in
    record { some = omega (arith, one); one = λ first. one; told = no_report }

pub returns-then-left-eq0 : goal.returns-then-left-eq0
returns-then-left-eq0 g c = (
  c.loop-place.place + 1,
  report_more c.loop-place.invariant.told
      (record { some = c.loop-place.invariant.some; one = c.loop-place.invariant.one }) c.tell.ensures,
)

pub loop-place-preserved : goal.loop-place-preserved
loop-place-preserved g c =
    let seen : 0 < length c.see.new.self.known.items = search rules in
    record {
      some =
          some_shortened c.loop-place.trunk.items c.share.new.trunk.items c.see.new.self.known.items
          c.share.new.known.items c.in_ok-share.ensures seen;
      one = λ first. absurd (omega (arith, first));
      told =
          report_more c.loop-place.invariant.told
          (record { some = c.loop-place.invariant.some; one = c.loop-place.invariant.one }) c.tell.ensures;
    }
