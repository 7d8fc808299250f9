use Rattle.std.proofs.{Common.{List, ℕ, refl, subst}, lemmas.Result.err_from_is_err_and}
use Rattle.xa_lines.proofs.Calls.{completed, stopped_writing, stopped_reading, stopped_making}
use Rattle.xa_record.specs.Judged.{record_bytes, record_reads, IsJudged, IsJudgedText, IsFaultOfJudging}
use Rattle.xa_record.proofs.JudgedTexts.{judged-written, judged-faulted}
use Rattle.xa_record.proofs.run.judge_record.Goals as goal

pub returns-clause-written : goal.returns-clause-written
returns-clause-written g c =
    let judged = c.in_ok-judged.judged in
    let right = subst (λ (t : List ℕ). IsJudged c.args.base.now t c.args.allowances.now c.args.asked
    judged.outcome judged.text.items) c.as_slice.ensures.value c.in_ok-judged.ensures in
    judged-written c.args.base.now c.args.allowances.now c.args.asked c.write_judged.result judged.outcome
    judged.text.items c.in_ok-text.text.items _ _ _ _ c.in_ok-text.ensures.all
    c.in_ok-text.ensures.end right c.write_judged.ensures.outcome c.write_judged.ensures.all

pub returns-clause-fault : goal.returns-clause-fault
returns-clause-fault g c =
    let judged = c.in_ok-judged.judged in
    let right = subst (λ (t : List ℕ). IsJudged c.args.base.now t c.args.allowances.now c.args.asked
    judged.outcome judged.text.items) c.as_slice.ensures.value c.in_ok-judged.ensures in
    judged-faulted c.args.base.now c.args.allowances.now c.args.asked c.write_judged.result judged.outcome
    judged.text.items c.in_ok-text.text.items _ _ _ _ c.in_ok-text.ensures.all
    c.in_ok-text.ensures.end right c.write_judged.ensures.fault c.write_judged.ensures.prefix

pub returns-in_err-text-clause-cause : goal.returns-in_err-text-clause-cause
returns-in_err-text-clause-cause g c =
    let p = err_from_is_err_and c.from_residual.result c.from_residual.ensures.1 in
    stopped_reading g.W.PieceWriter.takes g.W.PieceWriter.refuses g.R.PieceReader.gives g.R.PieceReader.fails
    record_reads record_bytes
    (IsJudgedText c.args.base.now c.args.allowances.now c.args.asked) IsFaultOfJudging
    c.from_residual.result p.0 _ c.args.reader.now c.read_within.new.reader c.args.writer.now p.1 p.2
    c.in_err-text.ensures.cause

pub returns-in_err-judged-clause-cause : goal.returns-in_err-judged-clause-cause
returns-in_err-judged-clause-cause g c =
    let p = err_from_is_err_and c.from_residual-in_err-judged.result c.from_residual-in_err-judged.ensures.1 in
    stopped_making g.W.PieceWriter.takes g.W.PieceWriter.refuses g.R.PieceReader.gives g.R.PieceReader.fails
    record_reads record_bytes
    (IsJudgedText c.args.base.now c.args.allowances.now c.args.asked) IsFaultOfJudging
    c.from_residual-in_err-judged.result p.0 p.0 c.in_ok-text.text.items c.args.reader.now c.read_within.new.reader
    c.args.writer.now p.1 refl
    c.in_ok-text.ensures.calls p.2

pub returns-clause-calls : goal.returns-clause-calls
returns-clause-calls g c =
    let judged = c.in_ok-judged.judged in
    let right = subst (λ (t : List ℕ). IsJudged c.args.base.now t c.args.allowances.now c.args.asked
    judged.outcome judged.text.items) c.as_slice.ensures.value c.in_ok-judged.ensures in
    completed g.W.PieceWriter.takes g.W.PieceWriter.refuses g.R.PieceReader.gives g.R.PieceReader.fails record_reads
    record_bytes
    (IsJudgedText c.args.base.now c.args.allowances.now c.args.asked) IsFaultOfJudging
    c.write_judged.result c.in_ok-text.text.items judged.text.items c.args.reader.now c.read_within.new.reader
    c.args.writer.now c.write_judged.new.writer
    c.in_ok-text.ensures.calls (judged.outcome, right) c.write_judged.ensures.calls

pub returns-clause-cause : goal.returns-clause-cause
returns-clause-cause g c =
    let judged = c.in_ok-judged.judged in
    let right = subst (λ (t : List ℕ). IsJudged c.args.base.now t c.args.allowances.now c.args.asked
    judged.outcome judged.text.items) c.as_slice.ensures.value c.in_ok-judged.ensures in
    stopped_writing g.W.PieceWriter.takes g.W.PieceWriter.refuses g.R.PieceReader.gives g.R.PieceReader.fails
    record_reads record_bytes
    (IsJudgedText c.args.base.now c.args.allowances.now c.args.asked) IsFaultOfJudging
    c.write_judged.result c.in_ok-text.text.items judged.text.items c.args.reader.now c.read_within.new.reader
    c.args.writer.now c.write_judged.new.writer
    c.in_ok-text.ensures.calls (judged.outcome, right) c.write_judged.ensures.fault c.write_judged.ensures.calls
