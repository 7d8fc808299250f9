use Rattle.std.proofs.{Common.arith, lemmas.Bool.leb-true}
use Rattle.xa_words.proofs.Behind.{behind_first, behind_second}
use Rattle.xa_words.proofs.layout.is_behind_text.Goals as goal

pub returns-then-index-lt13-clause-zero : goal.returns-then-index-lt13-clause-zero
returns-then-index-lt13-clause-zero c past entry before =
    let low = c.if-index-lt5.false in
    let high = c.if-index-lt13.true in
    behind_first entry c.args.index _ (before 2 (omega arith)) (omega arith) (omega arith) (leb-true _ _ past)

pub returns-else-index-lt13-clause-zero : goal.returns-else-index-lt13-clause-zero
returns-else-index-lt13-clause-zero c past entry before =
    let low = c.if-index-lt13.false in
    let high = c.requires in
    behind_second entry c.args.index _ (before 3 (omega arith)) (omega arith) (omega arith) (leb-true _ _ past)
