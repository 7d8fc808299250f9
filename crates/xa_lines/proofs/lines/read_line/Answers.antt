use Rattle.std.proofs.Common.{sym, ◌∙◌}
use Rattle.xa_lines.proofs.Script.{line_of-blank, line_of-filled, filled-bad, filled-given}
use Rattle.xa_lines.proofs.lines.read_line.Goals as goal

pub returns-then-is_empty : goal.returns-then-is_empty
returns-then-is_empty c = line_of-blank _ c.skip_blanks-text.result.now c.skip_blanks-text.ensures.value
    (sym c.is_empty.ensures ∙ c.if-is_empty.true)

pub returns-in-None : goal.returns-in-None
returns-in-None c =
    let filled = line_of-filled c.args.line.now c.skip_blanks-text.result.now c.skip_blanks-text.ensures.value
    (sym c.is_empty.ensures ∙ c.if-is_empty.false) in
    filled-bad _ c.skip_blanks-text.result.now _ filled c.split_word.ensures.word
    (sym c.session_of.ensures ∙ c.in-None.is)

pub returns-in-Some : goal.returns-in-Some
returns-in-Some c =
    let filled = line_of-filled c.args.line.now c.skip_blanks-text.result.now c.skip_blanks-text.ensures.value
    (sym c.is_empty.ensures ∙ c.if-is_empty.false) in
    rw c.skip_blanks.ensures.value
    (filled-given c.args.line.now c.skip_blanks-text.result.now _ c.split_word.result.1.now c.in-Some.session filled
    c.split_word.ensures.word
    c.split_word.ensures.rest (sym c.session_of.ensures ∙ c.in-Some.is))
