use Rattle.std.proofs.{Common.{ℕ, drop, arith}, lemmas.{Result.err_from_is_err_and, List.{length-take, length-drop}}}
use Rattle.std.proofs.KnownBytes.{Appends-nil}
use Rattle.xa_lines.proofs.{Calls.{carries_none, written_front, written_next, writing_stopped}, Written.Appends-more}
use Rattle.xa_lines.proofs.streams.write_whole.Goals as goal

pub loop-written-init : goal.loop-written-init
loop-written-init g c = record {
  within = omega arith;
  appended = Appends-nil (g.W.Write.contents c.args.writer.now);
  calls = (0, carries_none g.W.PieceWriter.takes c.args.writer.now);
}

pub loop-written-preserved : goal.loop-written-preserved
loop-written-preserved g c = record {
  within = omega (arith, c.in_ok-count.ensures.bound, length-take {A = ℕ}, length-drop {A = ℕ});
  appended = Appends-more _ _ _ c.args.bytes.now c.loop-written.written c.in_ok-count.count
      c.loop-written.invariant.appended c.in_ok-count.ensures.bytes;
  calls = written_next g.W.PieceWriter.takes c.args.writer.now c.loop-written.writer c.write_once.new.writer
      c.args.bytes.now c.loop-written.written
      c.in_ok-count.count
      c.loop-written.invariant.calls c.in_ok-count.ensures.taken c.in_ok-count.ensures.some
      (omega (arith, c.in_ok-count.ensures.bound));
}

pub returns-in_err-count-clause-calls : goal.returns-in_err-count-clause-calls
returns-in_err-count-clause-calls g c =
    let p = err_from_is_err_and c.from_residual.result c.from_residual.ensures.1 in
    writing_stopped _ _ c.from_residual.result p.0 p.1 (record {
      left = drop c.loop-written.written c.args.bytes.now;
      last = c.loop-written.writer;
      calls = written_front g.W.PieceWriter.takes c.args.writer.now c.loop-written.writer c.args.bytes.now
          c.loop-written.written c.loop-written.invariant.calls;
      refused = c.in_err-count.ensures.refused;
    })
