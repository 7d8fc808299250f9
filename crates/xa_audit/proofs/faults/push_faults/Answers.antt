use Rattle.std.proofs.Common.{◌+◌, sym, ◌∙◌, arith}
use Rattle.xa_audit.proofs.Texts.{faults_cut, faults_end}
use Rattle.xa_audit.proofs.faults.push_faults.Goals as goal

pub loop-rest-preserved : goal.loop-rest-preserved
loop-rest-preserved c = record {
  text =
      faults_cut c.args.store (c.loop-rest.number + 1) c.loop-rest.rest.now c.split_line.result.0.now
      c.split_line.result.1.now c.loop-rest.faults.items
      c.push_fault.new.faults.items _ c.split_line.ensures.lines c.in_ok-push_fault.ensures c.loop-rest.invariant.text;
  short = omega (arith, c.loop-rest.invariant.short, c.split_line.ensures.shorter);
}

pub returns : goal.returns
returns c =
    faults_end c.args.store (c.loop-rest.number + 1) c.loop-rest.rest.now c.loop-rest.faults.items _
    (sym c.is_empty.ensures ∙ c.loop-rest-test.false)
    c.loop-rest.invariant.text
