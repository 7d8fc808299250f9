use Rattle.std.{proofs.Common.{subst, Some, List, ℕ}, specs.Prelude.{IfOk, IfErr}}
use Rattle.xa_record.specs.Judged.{AfterJudgeFault}
use Rattle.xa_script.{specs.Status.AppendsVerdict, proofs.RecordsRead.{judged_whole, faulted_whole}}
use Rattle.xa_script.proofs.judging_read.judge_read.Goals as goal

pub returns-clause-judged : goal.returns-clause-judged
returns-clause-judged g c =
    let record_read = c.in_ok-record_read.record_read in
    let verdict = subst (λ (text : List ℕ). IfOk c.judge_within.result
    (λ status. AppendsVerdict c.args.base.now c.args.allowances.now c.args.asked status (Some text)
    (g.W.Write.contents c.args.writer.now) (g.W.Write.contents c.judge_within.new.writer)))
    c.as_slice-record.ensures.value c.judge_within.ensures.judged in
    judged_whole c.args.base.now c.args.allowances.now c.args.asked c.judge_within.result record_read.items _ _ _ _
    c.in_ok-record_read.ensures.all.1 c.in_ok-record_read.ensures.all.2 verdict

pub returns-clause-fault : goal.returns-clause-fault
returns-clause-fault g c =
    let record_read = c.in_ok-record_read.record_read in
    let left = subst (λ (text : List ℕ). IfErr c.judge_within.result
    (λ fault. AfterJudgeFault c.args.base.now c.args.allowances.now c.args.asked fault (Some text)
    (g.W.Write.contents c.args.writer.now) (g.W.Write.contents c.judge_within.new.writer)))
    c.as_slice-record.ensures.value c.judge_within.ensures.fault in
    faulted_whole c.args.base.now c.args.allowances.now c.args.asked c.judge_within.result record_read.items _ _ _ _
    c.in_ok-record_read.ensures.all.1 c.in_ok-record_read.ensures.all.2 left
