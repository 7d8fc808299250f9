use Rattle.std.proofs.{Common.{rules, ◌∙◌}, lemmas.Iterator.{YieldsList-from_slice, Search.position_from_yields_List}}
use Rattle.xa_xid.specs.{Bytes.belongs, declared.byte_class.ByteClass.TheVariants.Blank}
use Rattle.xa_lines.proofs.Counting.{from_position}
use borrow.Author.Tests.{tests}
use Rattle.xa_lines.proofs.lines.word_length.Goals as goal

pub returns-clause-length : goal.returns-clause-length
returns-clause-length c =
    let found =
    position_from_yields_List (belongs Blank) _ _ _ c.position.ensures.ran (YieldsList-from_slice c.args.text.now cc)
    (λ x b q k. search (rules, tests)) in
    c.unwrap_or.ensures ∙ from_position (belongs Blank) c.args.text.now _ found
