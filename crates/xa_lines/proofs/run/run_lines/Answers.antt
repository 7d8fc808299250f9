use Rattle.std.proofs.{Common.{◌≡◌, ◌∙◌, sym, ap}, lemmas.Result.err_from_is_err_and}
use Rattle.xa_lines.specs.{Script.lines_of, Transcript.{run_text, transcript}}
use Rattle.xa_lines.proofs.Calls.{written_none as calls_none, written_so, written_then, stopped_then, written_all}
use Rattle.xa_lines.proofs.{Calls.answers_stopped, Transcript.{written_none, prefix_written, prefix_more, written_more}}
use Rattle.xa_lines.proofs.Transcript.{written_as, written_whole, run_text-line, run_text-end, on_err}
use Rattle.xa_lines.proofs.run.run_lines.Goals as goal

pub returns-in_err-put_line-clause-prefix : goal.returns-in_err-put_line-clause-prefix
returns-in_err-put_line-clause-prefix g c =
    on_err c.from_residual.result (prefix_written _ _ _ _ c.loop-rest.invariant.known)

pub returns-in_err-write_whole-clause-prefix : goal.returns-in_err-write_whole-clause-prefix
returns-in_err-write_whole-clause-prefix g c =
    let line =
    run_text-line c.loop-rest.server c.put_line.new.server c.loop-rest.rest.now c.split_line.result.0.now
    c.split_line.result.1.now c.as_slice.result.now
    c.split_line.ensures.lines
    (c.as_slice.ensures.value ∙ c.in_ok-put_line.ensures.answer) c.in_ok-put_line.ensures.after in
    on_err c.from_residual-in_err-write_whole.result
    (prefix_more _ _ _ _ c.as_slice.result.now _ (written_as _ _ _ _ _ line c.loop-rest.invariant.known)
    c.in_err-write_whole.ensures.prefix)

pub loop-rest-preserved : goal.loop-rest-preserved
loop-rest-preserved g c =
    let line =
    run_text-line c.loop-rest.server c.put_line.new.server c.loop-rest.rest.now c.split_line.result.0.now
    c.split_line.result.1.now c.as_slice.result.now
    c.split_line.ensures.lines
    (c.as_slice.ensures.value ∙ c.in_ok-put_line.ensures.answer) c.in_ok-put_line.ensures.after in
    record {
      known = written_more _ _ _ _ c.as_slice.result.now _
          (written_as _ _ _ _ _ line c.loop-rest.invariant.known) c.in_ok-write_whole.ensures.all;
      calls = written_then g.W.PieceWriter.takes _ _ _ _ c.as_slice.result.now _
          (written_so g.W.PieceWriter.takes _ _ _ _ _ line c.loop-rest.invariant.calls)
          c.in_ok-write_whole.ensures.calls;
    }

pub returns-clause-all : goal.returns-clause-all
returns-clause-all g c =
    written_whole _ _ _ _ c.loop-rest.invariant.known (run_text-end c.loop-rest.server c.loop-rest.rest.now
    (sym c.is_empty.ensures ∙ c.loop-rest-test.false))

pub loop-rest-init : goal.loop-rest-init
loop-rest-init g c =
    let whole = transcript c.args.script.now in
    let known = g.W.Write.contents c.args.writer.now in
    let same : transcript c.args.script.now ≡ run_text c.new-server.result (lines_of c.args.script.now) =
    ap (λ s. run_text s (lines_of c.args.script.now)) (sym c.new-server.ensures) in
    record {
      known = written_as known known whole whole (run_text c.new-server.result (lines_of c.args.script.now)) same
          (written_none known whole);
      calls = written_so g.W.PieceWriter.takes c.args.writer.now c.args.writer.now whole whole
          (run_text c.new-server.result (lines_of c.args.script.now)) same
          (calls_none g.W.PieceWriter.takes c.args.writer.now whole);
    }

pub returns-in_err-write_whole-clause-cause : goal.returns-in_err-write_whole-clause-cause
returns-in_err-write_whole-clause-cause g c =
    let line =
    run_text-line c.loop-rest.server c.put_line.new.server c.loop-rest.rest.now c.split_line.result.0.now
    c.split_line.result.1.now c.as_slice.result.now
    c.split_line.ensures.lines
    (c.as_slice.ensures.value ∙ c.in_ok-put_line.ensures.answer) c.in_ok-put_line.ensures.after in
    let p = err_from_is_err_and c.from_residual-in_err-write_whole.result
    c.from_residual-in_err-write_whole.ensures.1 in
    answers_stopped g.W.PieceWriter.takes g.W.PieceWriter.refuses c.from_residual-in_err-write_whole.result p.0 _ _ _ _
    p.1 p.2 c.in_err-write_whole.ensures.fault
    (stopped_then g.W.PieceWriter.takes g.W.PieceWriter.refuses _ _ _ _ c.as_slice.result.now _
    (written_so g.W.PieceWriter.takes _ _ _ _ _ line c.loop-rest.invariant.calls) c.in_err-write_whole.ensures.calls)

pub returns-clause-calls : goal.returns-clause-calls
returns-clause-calls g c =
    written_all g.W.PieceWriter.takes _ _ _ _ c.loop-rest.invariant.calls
    (run_text-end c.loop-rest.server c.loop-rest.rest.now (sym c.is_empty.ensures ∙ c.loop-rest-test.false))
