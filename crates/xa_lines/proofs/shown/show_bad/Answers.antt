use Rattle.std.proofs.Common.{[], refl}
use Rattle.xa_lines.{specs.Answer.bytes_of, proofs.Behind.bad_shown}
use Rattle.xa_lines.proofs.shown.show_bad.Goals as goal

pub returns : goal.returns
returns c = bad_shown c.args.server.now (bytes_of c.bad_line.result)
    (bytes_of c.with_shown.result) [] refl c.bad_line.ensures.bytes c.with_shown.ensures

pub with_shown-requires : goal.with_shown-requires
with_shown-requires c = c.bad_line.ensures.room
