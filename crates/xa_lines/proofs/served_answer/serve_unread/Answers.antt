use Rattle.std.proofs.Common.{inl, refl}
use Rattle.xa_lines.proofs.served_answer.serve_unread.Goals as goal

pub returns-clause-answered : goal.returns-clause-answered
returns-clause-answered c = inl (c.unread_told.ensures.bytes, refl)
