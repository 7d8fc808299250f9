use Rattle.std.proofs.Common.{true, false, length}
use Rattle.xa_judge.{specs.Keys.picked, proofs.KeyVerdicts.legal_before}
use Rattle.xa_judge.proofs.by_keys.together.Goals as goal

pub illegal_in-requires-clause-other : goal.illegal_in-requires-clause-other
illegal_in-requires-clause-other c =
    legal_before c.args.base.now (picked true c.args.sides.now c.args.events.now) c.args.limit
    (length c.args.sides.now) c.in-Legal.moves c.args.chosen c.requires.chosen c.in-Legal.is

pub illegal_in-requires-in-Legal-rest-2-clause-other : goal.illegal_in-requires-in-Legal-rest-2-clause-other
illegal_in-requires-in-Legal-rest-2-clause-other c =
    legal_before c.args.base.now (picked false c.args.sides.now c.args.events.now) c.args.limit
    (length c.args.sides.now) c.in-Legal-rest-2.field-0 c.args.rest c.requires.rest c.in-Legal-rest-2.is
