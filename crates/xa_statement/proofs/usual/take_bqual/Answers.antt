use Rattle.std.proofs.Common.{ap}
use Rattle.xa_xid.specs.declared.xid.Xid.{Xid}
use Rattle.xa_statement.specs.{declared.state.State.TheVariants.{WantsBqual, WantsFormatId}, Machine.statement_of}
use Rattle.xa_statement.proofs.Ways.{bqual_goes, bqual_said, goes_then}
use Rattle.xa_statement.proofs.usual.take_bqual.Goals as goal

pub returns-in_ok-end-in-Some : goal.returns-in_ok-end-in-Some
returns-in_ok-end-in-Some c = λ verb.
    let gtrid = c.args.xid.now.gtrid in
    let found = c.take_literal.new.bytes in
    let text = c.args.text.now in
    let next = c.in-Some.next.now in
    goes_then text next c.in_ok-end-in-Some.end.now (WantsBqual verb gtrid) (WantsFormatId verb gtrid found)
    (statement_of verb c.take_format_id.new.xid)
    (bqual_goes verb gtrid text c.in_ok-rest.rest.now next found c.in_ok-rest.ensures c.in-Some.ensures)
    (c.in_ok-end-in-Some.ensures verb)

pub returns-in-None : goal.returns-in-None
returns-in-None c = λ verb.
    bqual_said verb c.args.xid.now.gtrid c.args.text.now c.in_ok-rest.rest.now c.take_literal.new.bytes
    c.args.xid.now.format_id
    (ap (λ (xid : Xid). xid.format_id) c.requires) c.in_ok-rest.ensures
