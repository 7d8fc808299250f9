use Rattle.std.proofs.Common.{ap}
use Rattle.xa_xid.specs.declared.xid.Xid.{Xid}
use Rattle.xa_statement.specs.{declared.state.State.TheVariants.{WantsGtrid, WantsBqual}, Machine.statement_of}
use Rattle.xa_statement.proofs.Ways.{gtrid_goes, gtrid_said, goes_then}
use Rattle.xa_statement.proofs.usual.take_xid.Goals as goal

pub returns-in_ok-end-in-Some : goal.returns-in_ok-end-in-Some
returns-in_ok-end-in-Some c = λ verb.
    let found = c.take_literal.new.bytes in
    let text = c.args.text.now in
    let next = c.in-Some.next.now in
    goes_then text next c.in_ok-end-in-Some.end.now (WantsGtrid verb) (WantsBqual verb found)
    (statement_of verb c.take_bqual.new.xid)
    (gtrid_goes verb text c.in_ok-rest.rest.now next found c.in_ok-rest.ensures c.in-Some.ensures)
    (c.in_ok-end-in-Some.ensures verb)

pub returns-in-None : goal.returns-in-None
returns-in-None c = λ verb.
    gtrid_said verb c.args.text.now c.in_ok-rest.rest.now c.take_literal.new.bytes c.args.xid.now.bqual
    c.args.xid.now.format_id
    (ap (λ (xid : Xid). xid.bqual) c.requires) (ap (λ (xid : Xid). xid.format_id) c.requires) c.in_ok-rest.ensures
