use Rattle.std.proofs.{Common.{inl, refl, rules}, lemmas.Result.err_from_is_err_and}
use Rattle.xa_lines.{specs.Transcript.StopsRun, proofs.Calls.{passed_fault, run_stopped}}
use Rattle.xa_lines.proofs.run.run_script.Goals as goal

pub returns-in_err-script-clause-cause : goal.returns-in_err-script-clause-cause
returns-in_err-script-clause-cause g c =
    let p = err_from_is_err_and c.from_residual.result c.from_residual.ensures.1 in
    passed_fault
    (λ told. StopsRun g.R.PieceReader.gives g.R.PieceReader.fails g.W.PieceWriter.takes g.W.PieceWriter.refuses told
    c.args.reader.now c.read_all.new.reader
    c.args.writer.now c.args.writer.now)
    c.from_residual.result p.0 _ p.1 p.2 (inl (c.in_err-script.ensures.cause, refl))

pub returns-clause-cause : goal.returns-clause-cause
returns-clause-cause g c =
    run_stopped g.W.PieceWriter.takes g.W.PieceWriter.refuses g.R.PieceReader.gives g.R.PieceReader.fails
    c.run_lines.result c.as_slice.result.now
    c.args.reader.now c.read_all.new.reader c.args.writer.now c.run_lines.new.writer
    (search rules) c.run_lines.ensures.cause
