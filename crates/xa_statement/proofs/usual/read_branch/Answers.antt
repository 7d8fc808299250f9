use Rattle.xa_statement.{specs.{declared.state.State.TheVariants.WantsGtrid, Machine.statement_of}, proofs.Ways.told_so}
use Rattle.xa_statement.proofs.usual.read_branch.Goals as goal

pub returns-in-Some : goal.returns-in-Some
returns-in-Some c =
    let verb = c.args.verb in
    told_so c.args.text.now c.args.rest.now c.in-Some.end.now (WantsGtrid verb)
    (statement_of verb c.take_xid.new.xid) c.statement_of.result
    c.statement_of.ensures c.requires (c.in-Some.ensures verb) (c.ends.ensures c.if-ends.true)
