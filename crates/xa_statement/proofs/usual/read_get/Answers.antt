use Rattle.std.proofs.Common.{◌<◌, length, ap, rules}
use Rattle.xa_xid.specs.declared.statement.Statement.TheVariants.{Get}
use Rattle.xa_statement.{specs.declared.state.{State.State, RowVerb.TheVariants.Gets}, proofs.Ways.{told_so, get_leads}}
use Rattle.xa_statement.proofs.usual.read_get.Goals as goal

pub returns-in-Some-of : goal.returns-in-Some-of
returns-in-Some-of c =
    let rest = c.args.rest.now in
    let end = c.in-Some.end.now in
    let bytes = c.take_literal.new.bytes in
    let some : 0 < length bytes.items = search rules in
    told_so c.args.text.now rest end (State.WantsKey Gets) (Get bytes.items) (Get c.in-Some-of.key)
    (ap Get c.in-Some-of.ensures.bytes)
    c.requires (get_leads rest end bytes c.in-Some.ensures some) (c.ends.ensures c.if-ends.true)
