use Rattle.std.proofs.Common.{◌∙◌}
use Rattle.xa_record.proofs.Reasons.{listed}
use Rattle.xa_record.proofs.explaining.state_lines.Goals as goal

pub returns : goal.returns
returns c =
    listed c.with_listing.result c.args.base.now c.args.events.now c.args.moves.now c.in_ok-store.store
    c.as_slice.result.now c.new.result.items
    c.new.ensures.items c.in_ok-store.ensures (c.as_slice.ensures.value ∙ c.in_ok-rows.ensures) c.with_listing.ensures
