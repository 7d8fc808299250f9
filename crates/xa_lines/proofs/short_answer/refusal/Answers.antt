use Rattle.std.proofs.{Common.{◌≤◌, ◌∙◌, length, ap, decimal, arith}, lemmas.Fmt.length-decimal-le}
use Rattle.xa_lines.proofs.Told.{refused_text-parts}
use Rattle.xa_lines.proofs.short_answer.refusal.Goals as goal

pub returns-clause-bytes : goal.returns-clause-bytes
returns-clause-bytes c =
    c.short_answer.ensures.bytes ∙ refused_text-parts _ c.args.session
    (c.as_bytes.ensures.value ∙ c.format-who.ensures.text ∙ ap decimal c.get.ensures.value)

pub returns-clause-room : goal.returns-clause-room
returns-clause-room c =
    let range = c.get.ensures.in_range in
    let below : c.get.result ≤ 16 = omega (arith, range) in
    let digits : length (decimal c.get.result) ≤ 2 = length-decimal-le 2 c.get.result (omega arith)
    (omega (arith, below)) (omega (arith, below)) in
    let who = ap length (c.as_bytes.ensures.value ∙ c.format-who.ensures.text) in
    c.short_answer.ensures.room 16 (omega (arith, who, digits))
