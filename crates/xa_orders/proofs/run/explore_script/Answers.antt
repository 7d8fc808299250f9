use Rattle.std.proofs.{Common.{List, ℕ, refl, subst}, lemmas.Result.err_from_is_err_and}
use Rattle.xa_lines.proofs.Calls.{completed, stopped_writing, stopped_reading, stopped_making}
use Rattle.xa_lines.specs.Limits.{script_bytes, script_reads}
use Rattle.xa_orders.specs.Scripts.{IsExploredText, IsSomeText, IsFaultOfExploring}
use Rattle.xa_orders.proofs.Scripts.{explored_written, explored_faulted}
use Rattle.xa_orders.proofs.run.explore_script.Goals as goal

pub returns-clause-written : goal.returns-clause-written
returns-clause-written g c =
    let explored = c.in_ok-explored.explored in
    let right = subst (λ (t : List ℕ). IsExploredText t c.args.limit explored.ended explored.text.items)
    c.as_slice.ensures.value c.in_ok-explored.ensures in
    explored_written c.args.limit c.write_explored.result explored.ended explored.text.items c.in_ok-script.script.items
    _ _ _ _ c.in_ok-script.ensures.all
    c.in_ok-script.ensures.end right c.write_explored.ensures.ended c.write_explored.ensures.all

pub returns-clause-fault : goal.returns-clause-fault
returns-clause-fault g c =
    let explored = c.in_ok-explored.explored in
    let right = subst (λ (t : List ℕ). IsExploredText t c.args.limit explored.ended explored.text.items)
    c.as_slice.ensures.value c.in_ok-explored.ensures in
    explored_faulted c.args.limit c.write_explored.result explored.ended explored.text.items c.in_ok-script.script.items
    _ _ _ _ c.in_ok-script.ensures.all
    c.in_ok-script.ensures.end right c.write_explored.ensures.fault c.write_explored.ensures.prefix

pub returns-in_err-script-clause-cause : goal.returns-in_err-script-clause-cause
returns-in_err-script-clause-cause g c =
    let p = err_from_is_err_and c.from_residual.result c.from_residual.ensures.1 in
    stopped_reading g.W.PieceWriter.takes g.W.PieceWriter.refuses g.R.PieceReader.gives g.R.PieceReader.fails
    script_reads script_bytes
    (IsSomeText c.args.limit) IsFaultOfExploring
    c.from_residual.result p.0 _ c.args.reader.now c.read_all.new.reader c.args.writer.now p.1 p.2
    c.in_err-script.ensures.cause

pub returns-in_err-explored-clause-cause : goal.returns-in_err-explored-clause-cause
returns-in_err-explored-clause-cause g c =
    let p = err_from_is_err_and c.from_residual-in_err-explored.result c.from_residual-in_err-explored.ensures.1 in
    stopped_making g.W.PieceWriter.takes g.W.PieceWriter.refuses g.R.PieceReader.gives g.R.PieceReader.fails
    script_reads script_bytes
    (IsSomeText c.args.limit) IsFaultOfExploring
    c.from_residual-in_err-explored.result p.0 p.0 c.in_ok-script.script.items c.args.reader.now c.read_all.new.reader
    c.args.writer.now p.1 refl
    c.in_ok-script.ensures.calls p.2

pub returns-clause-calls : goal.returns-clause-calls
returns-clause-calls g c =
    let explored = c.in_ok-explored.explored in
    let right = subst (λ (t : List ℕ). IsExploredText t c.args.limit explored.ended explored.text.items)
    c.as_slice.ensures.value c.in_ok-explored.ensures in
    completed g.W.PieceWriter.takes g.W.PieceWriter.refuses g.R.PieceReader.gives g.R.PieceReader.fails script_reads
    script_bytes
    (IsSomeText c.args.limit) IsFaultOfExploring
    c.write_explored.result c.in_ok-script.script.items explored.text.items c.args.reader.now c.read_all.new.reader
    c.args.writer.now c.write_explored.new.writer
    c.in_ok-script.ensures.calls (explored.ended, right) c.write_explored.ensures.calls

pub returns-clause-cause : goal.returns-clause-cause
returns-clause-cause g c =
    let explored = c.in_ok-explored.explored in
    let right = subst (λ (t : List ℕ). IsExploredText t c.args.limit explored.ended explored.text.items)
    c.as_slice.ensures.value c.in_ok-explored.ensures in
    stopped_writing g.W.PieceWriter.takes g.W.PieceWriter.refuses g.R.PieceReader.gives g.R.PieceReader.fails
    script_reads script_bytes
    (IsSomeText c.args.limit) IsFaultOfExploring
    c.write_explored.result c.in_ok-script.script.items explored.text.items c.args.reader.now c.read_all.new.reader
    c.args.writer.now c.write_explored.new.writer
    c.in_ok-script.ensures.calls (explored.ended, right) c.write_explored.ensures.fault c.write_explored.ensures.calls
