use Rattle.std.proofs.Common.{◌+◌, ap, sym, ◌∙◌, arith}
use Rattle.xa_lines.specs.Script.{lines_of}
use Rattle.xa_orders.specs.{Scripts.{Reading, script_read, read_lines}, Kept.read_kept}
use Rattle.xa_orders.proofs.Scripts.{read_lines_cut, read_lines_end}
use Rattle.xa_orders.proofs.script.read_script.Goals as goal

pub loop-rest-init : goal.loop-rest-init
unfolding script_read
loop-rest-init c = record {
  read = ap (λ (r : Reading). read_lines r 1 (lines_of c.args.text.now)) (sym c.new-script.ensures);
  short = omega arith;
}

pub loop-rest-preserved : goal.loop-rest-preserved
loop-rest-preserved c =
    let number = c.loop-rest.number + 1 in
    record {
      read =
          c.loop-rest.invariant.read
          ∙ read_lines_cut (read_kept c.loop-rest.script) number c.loop-rest.rest.now c.split_line.result.0.now
          c.split_line.result.1.now
          c.split_line.ensures.lines
          ∙ ap (λ (r : Reading). read_lines r (number + 1) (lines_of c.split_line.result.1.now))
          (sym c.in_ok-take.ensures);
      short = omega (arith, c.loop-rest.invariant.short, c.split_line.ensures.shorter);
    }

pub returns : goal.returns
returns c =
    sym
    (c.loop-rest.invariant.read
    ∙ read_lines_end (read_kept c.loop-rest.script) (c.loop-rest.number + 1) c.loop-rest.rest.now
    (sym c.is_empty.ensures ∙ c.loop-rest-test.false))
