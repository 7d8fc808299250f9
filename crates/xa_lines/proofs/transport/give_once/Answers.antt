use Rattle.std.proofs.Common.{refl, rules}
use Rattle.xa_lines.proofs.Written.{Keeps-nothing, Appends-nothing}
use Rattle.xa_lines.proofs.transport.give_once.Goals as goal

pub returns-in-Ok-eq0-clause-taken : goal.returns-in-Ok-eq0-clause-taken
returns-in-Ok-eq0-clause-taken g c = Keeps-nothing (g.W.Write.contents c.args.writer.now)
    (g.W.Write.contents c.write_piece.new.self) 0 c.args.text.now refl (search rules)

pub returns-then-eq-clause-taken : goal.returns-then-eq-clause-taken
returns-then-eq-clause-taken g c =
    Appends-nothing (g.W.Write.contents c.args.writer.now) (g.W.Write.contents c.write_piece.new.self)
    c.in-Err.ensures.bytes
