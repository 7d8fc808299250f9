use Rattle.xa_lines.{specs.Answer.bytes_of, proofs.Behind.long_shown}
use Rattle.xa_lines.proofs.shown.ShownLineServer.answer_long.Goals as goal

pub returns : goal.returns
returns c = long_shown c.args.self.now.server (bytes_of c.show_bad.result) c.args.self.now.server c.show_bad.ensures
