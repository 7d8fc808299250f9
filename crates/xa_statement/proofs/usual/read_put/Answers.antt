use Rattle.std.proofs.Common.{◌<◌, List, ℕ, length, ap, rules}
use Rattle.xa_xid.specs.declared.statement.Statement.TheVariants.{Put}
use Rattle.xa_statement.{specs.declared.state.{State.State, RowVerb.TheVariants.Puts}, proofs.Ways.told_so}
use Rattle.xa_statement.proofs.usual.read_put.Goals as goal

pub returns-in-Some-of : goal.returns-in-Some-of
returns-in-Some-of c =
    let bytes = c.take_row.new.key in
    let value = c.take_row.new.value in
    let some : 0 < length bytes.items = search rules in
    told_so c.args.text.now c.args.rest.now c.in-Some.end.now (State.WantsKey Puts) (Put bytes.items value)
    (Put c.in-Some-of.key value)
    (ap (λ (key : List ℕ). Put key value) c.in-Some-of.ensures.bytes) c.requires (c.in-Some.ensures some)
    (c.ends.ensures c.if-ends.true)
