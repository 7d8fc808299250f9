use Rattle.xa_record.proofs.Reasons.{legal_leads, illegal_not}
use Rattle.xa_record.proofs.explaining.moves_through.Goals as goal

pub returns-in-Legal : goal.returns-in-Legal
returns-in-Legal g c =
    legal_leads c.args.base.now c.args.events.now c.args.limit c.in_ok-moves.field-0 c.in-Legal.moves
    c.in_ok-moves.ensures.verdict c.in-Legal.is

pub unreachable-requires : goal.unreachable-requires
unreachable-requires g c =
    illegal_not c.args.base.now c.args.events.now c.args.limit c.in_ok-moves.field-0 c.in-Illegal.field-0
    c.in-Illegal.field-1 c.in_ok-moves.ensures.verdict
    c.in-Illegal.is c.requires
