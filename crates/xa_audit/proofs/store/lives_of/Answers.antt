use Rattle.std.proofs.Common.{sym, ◌∙◌}
use Rattle.xa_lines.specs.Script.{lines_of}
use Rattle.xa_audit.{specs.Branches.lives_in, proofs.{Following.{line_more, lines_end}, Texts.no_lines}}
use Rattle.xa_audit.proofs.store.lives_of.Goals as goal

pub loop-rest-preserved : goal.loop-rest-preserved
loop-rest-preserved c = record {
  owned = c.in_ok-take_line.ensures.owned;
  lives = λ xid.
      line_more c.split_line.result.0.now (lines_of c.split_line.result.1.now)
      (lines_of c.loop-rest.rest.now) c.loop-rest.store.server _
      c.loop-rest.store.lives _ (lives_in c.args.history.now xid) xid c.split_line.ensures.lines
      c.in_ok-take_line.ensures.server
      c.in_ok-take_line.ensures.lives (c.loop-rest.invariant.lives xid);
}

pub returns : goal.returns
returns c = λ xid.
    lines_end (lines_of c.loop-rest.rest.now) c.loop-rest.store.server _ (lives_in c.args.history.now xid) xid
    (no_lines c.loop-rest.rest.now (sym c.is_empty.ensures ∙ c.loop-rest-test.false)) (c.loop-rest.invariant.lives xid)
