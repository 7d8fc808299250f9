use Rattle.std.proofs.Common.{codes}
use Rattle.xa_record.proofs.JsonTexts.{line-ended-ok}
use Rattle.xa_record.proofs.json_text.write_members.Goals as goal

pub returns-in_ok-write_line-in-Undecided-clause-tokens : goal.returns-in_ok-write_line-in-Undecided-clause-tokens
returns-in_ok-write_line-in-Undecided-clause-tokens c =
    rw c.in-Undecided.is
    (line-ended-ok c.end_object-in-Undecided.result c.args.writer.now.tokens
    c.write_verdict-in-Undecided.new.writer.tokens
    c.write_line-in-Undecided.new.writer.tokens c.end_object-in-Undecided.new.self.tokens
    (codes "UNDECIDED") c.in-Undecided.line
    c.in_ok-write_verdict-in-Undecided.ensures.tokens c.in_ok-write_line-in-Undecided.ensures.tokens
    c.end_object-in-Undecided.ensures.ok)
