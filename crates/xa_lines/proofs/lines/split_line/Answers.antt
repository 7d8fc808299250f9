use Rattle.std.proofs.{Common.{◌∙◌, ap, take, drop}, lemmas.List.take_rest}
use Rattle.xa_lines.proofs.Script.{lines_of-split, none_left}
use Rattle.xa_lines.proofs.lines.split_line.Goals as goal

pub returns-in-empty-clause-lines : goal.returns-in-empty-clause-lines
returns-in-empty-clause-lines c =
    lines_of-split c.args.text.now _ c.split_at.result.1.now _ c.requires
    (c.split_at.ensures.front ∙ ap (λ n. take n c.args.text.now) c.line_length.ensures.length)
    (c.split_at.ensures.back ∙ ap (λ n. drop n c.args.text.now) c.line_length.ensures.length)
    (none_left c.split_at.result.1.now c.in-empty.len_below)

pub returns-in-len1-up-clause-lines : goal.returns-in-len1-up-clause-lines
returns-in-len1-up-clause-lines c =
    lines_of-split c.args.text.now _ c.split_at.result.1.now _ c.requires
    (c.split_at.ensures.front ∙ ap (λ n. take n c.args.text.now) c.line_length.ensures.length)
    (c.split_at.ensures.back ∙ ap (λ n. drop n c.args.text.now) c.line_length.ensures.length)
    (take_rest c.split_at.result.1.now 1)
