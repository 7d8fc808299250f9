use Rattle.std.proofs.{Common.{ℕ, arith, inl, inr, refl}, lemmas.Result.err_from_is_err_and}
use Rattle.std.proofs.{lemmas.List.{length-take, length-drop}, KnownBytes.Appends-nil}
use Rattle.xa_lines.proofs.{Calls.writing_stopped, Trying.{tried_none, tried_next, tried_part}, Written.Appends-more}
use Rattle.xa_lines.proofs.transport.give.Goals as goal

pub loop-try-init : goal.loop-try-init
loop-try-init g c = record {
  within = omega arith;
  appended = Appends-nil (g.W.Write.contents c.args.writer.now);
  calls = tried_none g.W.PieceWriter.takes g.W.PieceWriter.interrupts c.args.writer.now;
}

pub loop-try-preserved : goal.loop-try-preserved
loop-try-preserved g c = record {
  within = omega (arith, c.in_ok-count.ensures.bound, length-take {A = ℕ}, length-drop {A = ℕ});
  appended = Appends-more _ _ _ c.args.text.now c.loop-try.written c.in_ok-count.count c.loop-try.invariant.appended
      c.in_ok-count.ensures.taken;
  calls = tried_next g.W.PieceWriter.takes g.W.PieceWriter.interrupts c.loop-try._try c.args.writer.now
      c.loop-try.writer
      c.give_once.new.writer c.args.text.now c.loop-try.written c.in_ok-count.count c.loop-try.invariant.calls
      c.in_ok-count.ensures.tried;
}

pub returns-in_err-count-clause-calls : goal.returns-in_err-count-clause-calls
returns-in_err-count-clause-calls g c =
    let p = err_from_is_err_and c.from_residual.result c.from_residual.ensures.1 in
    writing_stopped _ _ c.from_residual.result p.0 p.1
    (tried_part g.W.PieceWriter.takes g.W.PieceWriter.interrupts c.loop-try._try c.args.writer.now c.loop-try.writer
    c.give_once.new.writer c.args.text.now c.loop-try.written g.W.PieceWriter.refuses c.loop-try.invariant.calls
    (inl c.in_err-count.ensures.refused))

pub returns-clause-calls : goal.returns-clause-calls
returns-clause-calls g c =
    tried_part g.W.PieceWriter.takes g.W.PieceWriter.interrupts c.loop-try._try c.args.writer.now c.loop-try.writer
    c.loop-try.writer c.args.text.now c.loop-try.written g.W.PieceWriter.refuses c.loop-try.invariant.calls
    (inr (omega (arith, c.loop-try-test.false), refl))
