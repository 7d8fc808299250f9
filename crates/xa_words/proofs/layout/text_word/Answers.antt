use Rattle.std.proofs.Common.{◌≡◌, rules, arith, sym, ap}
use Rattle.xa_words.{specs.Words.text_word, proofs.Texts.past_the_end}
use Rattle.xa_words.proofs.layout.text_word.Goals as goal

pub returns-then-text-place : goal.returns-then-text-place
returns-then-text-place c = sym (past_the_end c.args.text.now c.args.place c.if-text-place.true)

pub returns : goal.returns
unfolding text_word
returns c = search rules
