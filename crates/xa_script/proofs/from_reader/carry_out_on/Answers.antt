use Rattle.std.specs.Io.Buffered.{writer_contents}
use Rattle.xa_script.proofs.from_reader.carry_out_on.Goals as goal

pub returns : goal.returns
returns g c = λ texts are. record {
  done = c.end_all-done.result;
  written = writer_contents g.W.Write.contents c.end_all-done.new.output;
  left = c.end_all-done.ensures texts are;
  kept = c.flushed.ensures.kept;
  ends = c.flushed.ensures.ends;
  emptied = c.flushed.ensures.emptied;
}
