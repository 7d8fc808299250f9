use Rattle.std.proofs.Common.{sym, ◌∙◌, arith}
use Rattle.xa_races.proofs.ReadLines.{read_nothing, read_more, read_all_lines}
use Rattle.xa_races.proofs.race_lines.read_race.Goals as goal

pub loop-rest-init : goal.loop-rest-init
loop-rest-init c =
    record { read = read_nothing c.args.script.now c.in_ok-given.given c.in_ok-given.ensures; short = omega arith }

pub loop-rest-preserved : goal.loop-rest-preserved
loop-rest-preserved c = record {
  read =
      read_more c.args.script.now c.loop-rest.rest.now c.split_line.result.0.now c.split_line.result.1.now
      c.loop-rest.number c.loop-rest.given
      c.take_line.new.given c.split_line.ensures.lines c.in_ok-take_line.ensures c.loop-rest.invariant.read;
  short = omega (arith, c.loop-rest.invariant.short, c.split_line.ensures.shorter);
}

pub returns : goal.returns
returns c =
    read_all_lines c.args.script.now c.loop-rest.rest.now c.loop-rest.number c.loop-rest.given
    (sym c.is_empty.ensures ∙ c.loop-rest-test.false)
    c.loop-rest.invariant.read
