use Rattle.std.proofs.Common.{◌+◌, sym, ◌∙◌, arith}
use Rattle.xa_record.proofs.AllowanceLists.{allowances_in-line, allowances_in-faulty, allowances_in-end}
use Rattle.xa_record.proofs.allowances.read_allowances.Goals as goal

pub returns-in-Err-clause-fault : goal.returns-in-Err-clause-fault
returns-in-Err-clause-fault c =
    allowances_in-faulty _ c.loop-rest.list.items (c.loop-rest.number + 1) c.loop-rest.rest.now
    c.split_line.result.0.now c.split_line.result.1.now c.in-Err.faulty
    c.loop-rest.invariant.read c.split_line.ensures.lines (sym c.in-Err.is ∙ c.read_allow_line.ensures)

pub loop-rest-preserved : goal.loop-rest-preserved
loop-rest-preserved c = record {
  read = allowances_in-line _ c.loop-rest.list.items c.push_found.new.list.items
      (c.loop-rest.number + 1) c.loop-rest.rest.now c.split_line.result.0.now
      c.split_line.result.1.now c.in-Ok.found c.loop-rest.invariant.read c.split_line.ensures.lines
      (sym c.in-Ok.is ∙ c.read_allow_line.ensures)
      c.in_ok-push_found-in-Ok.ensures;
  short = omega (arith, c.loop-rest.invariant.short, c.split_line.ensures.shorter);
}

pub returns-clause-read : goal.returns-clause-read
returns-clause-read c =
    allowances_in-end _ c.loop-rest.list.items (c.loop-rest.number + 1) c.loop-rest.rest.now
    (sym c.is_empty.ensures ∙ c.loop-rest-test.false) c.loop-rest.invariant.read
