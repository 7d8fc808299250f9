use Rattle.std.proofs.Common.{inl, refl}
use Rattle.xa_lines.{specs.Script.Bad, proofs.Told.bad_answered}
use Rattle.xa_lines.proofs.statements.ServerLineServer.answer_long.Goals as goal

pub returns : goal.returns
returns c = inl (bad_answered c.args.self.now Bad _ refl c.bad_line.ensures.bytes)
