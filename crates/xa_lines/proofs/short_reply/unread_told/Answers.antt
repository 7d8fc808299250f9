use Rattle.std.proofs.Common.{◌++◌, ◌∙◌, ap, codes, decimal}
use Rattle.xa_lines.specs.Printed.{answer_text}
use Rattle.xa_lines.proofs.short_reply.unread_told.Goals as goal

pub returns-clause-bytes : goal.returns-clause-bytes
returns-clause-bytes c =
    c.told.ensures.bytes
    ∙ ap (λ number. answer_text (decimal c.args.session) (codes "ERROR 1064 (42000): syntax fault at byte " ++ number))
    (c.as_bytes.ensures.value ∙ c.format-number.ensures.text)
