use Rattle.std.proofs.Common.{◌<◌, length, ap, rules}
use Rattle.xa_xid.specs.declared.statement.Statement.TheVariants.{Del}
use Rattle.xa_statement.specs.declared.state.{State.TheVariants.WantsKey, RowVerb.TheVariants.Deletes}
use Rattle.xa_statement.proofs.Ways.{told_so, del_leads}
use Rattle.xa_statement.proofs.usual.read_del.Goals as goal

pub returns-in-Some-of : goal.returns-in-Some-of
returns-in-Some-of c =
    let rest = c.args.rest.now in
    let end = c.in-Some.end.now in
    let bytes = c.take_literal.new.bytes in
    let some : 0 < length bytes.items = search rules in
    told_so c.args.text.now rest end (WantsKey Deletes) (Del bytes.items) (Del c.in-Some-of.key)
    (ap Del c.in-Some-of.ensures.bytes)
    c.requires (del_leads rest end bytes c.in-Some.ensures some) (c.ends.ensures c.if-ends.true)
