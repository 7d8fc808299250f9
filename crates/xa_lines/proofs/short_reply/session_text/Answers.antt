use Rattle.std.proofs.{Common.{◌≤◌, ◌∙◌, length, ap, decimal, arith}, lemmas.Fmt.length-decimal-le}
use Rattle.std.proofs.lemmas.Grind.{common_steps}
use Rattle.xa_lines.proofs.short_reply.session_text.Goals as goal

pub returns-clause-short : goal.returns-clause-short
returns-clause-short c =
    let range = c.get.ensures.in_range in
    let below : c.get.result ≤ 16 = omega (arith, range) in
    let digits : length (decimal c.get.result) ≤ 2 = length-decimal-le 2 c.get.result (omega arith)
    (omega (arith, below)) (omega (arith, below)) in
    let who = ap length (c.as_bytes.ensures.value ∙ c.format.ensures.text) in
    grind (arith, common_steps)
