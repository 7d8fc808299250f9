use Rattle.std.proofs.{Common.{◌==◌, rules, ◌∙◌}, lemmas.Iterator.YieldsList-from_slice}
use Rattle.std.proofs.lemmas.Iterator.Search.{position_from_yields_List}
use Rattle.xa_lines.proofs.Counting.{from_position}
use borrow.Author.Tests.{tests}
use Rattle.xa_lines.proofs.lines.line_length.Goals as goal

pub returns-clause-length : goal.returns-clause-length
returns-clause-length c =
    let found =
    position_from_yields_List (λ byte. byte == 10) _ _ _ c.position.ensures.ran
    (YieldsList-from_slice c.args.text.now cc)
    (λ x b q k. search (rules, tests)) in
    c.unwrap_or.ensures ∙ from_position (λ byte. byte == 10) c.args.text.now _ found
