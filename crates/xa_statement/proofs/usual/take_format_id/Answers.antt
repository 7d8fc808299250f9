use Rattle.xa_statement.proofs.Ways.{format_leads}
use Rattle.xa_statement.proofs.usual.take_format_id.Goals as goal

pub returns : goal.returns
returns c = λ verb.
    format_leads verb c.args.xid.now.gtrid c.args.xid.now.bqual c.args.text.now c.in_ok-number.rest.now
    c.in_ok-number.number c.in_ok-number.ensures
