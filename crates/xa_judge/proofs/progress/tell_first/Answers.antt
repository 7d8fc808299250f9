use Rattle.std.proofs.Common.{length, refl, sym, subst, arith, zero-add}
use Rattle.xa_judge.{specs.Told.{IsReport, no_report}, proofs.Told.report_more}
use Rattle.xa_judge.proofs.progress.tell_first.Goals as goal

pub loop-place-init : goal.loop-place-init
loop-place-init g c = no_report

pub loop-place-preserved : goal.loop-place-preserved
loop-place-preserved g c =
    report_more c.loop-place.invariant (record { some = omega arith; one = λ first. refl })
    (subst (λ n. IsReport g.P.Progress.judged_gives n (length c.args.events.now) 1 c.loop-place.progress
    c.tell_numbers.new.progress) (sym (zero-add c.loop-place.place)) c.tell_numbers.ensures)
