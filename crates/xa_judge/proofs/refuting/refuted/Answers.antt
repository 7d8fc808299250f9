use Rattle.std.proofs.Common.{◌≡◌, ◌≢◌, ◌<◌, false, take, length, vec_len, sym, ◌∙◌, subst, arith, rules, tests}
use Rattle.std.{proofs.lemmas.Bool.eqb-false, specs.List.{All, Contains}}
use Rattle.xa_judge.specs.{declared.answer.Answer.Answer, Explained.shows_answer, Verdicts.IsAnswerAfter}
use Rattle.xa_judge.proofs.RefutedReturns.{illegal_return}
use Rattle.xa_judge.proofs.refuting.refuted.Goals as goal

pub returns-then-given : goal.returns-then-given
returns-then-given c =
    let base = c.args.base.now in
    let session = c.args.session in
    let answers = c.args.answers.items in
    let first = c.requires.first in
    let empty : vec_len c.args.answers ≢ 0 =
    eqb-false (vec_len c.args.answers) 0 (sym c.is_empty.ensures ∙ c.if-is_empty.false) in
    let some : 0 < length answers = omega (arith, empty, c.args.answers.ok.0) in
    let all : (answer : Answer) → IsAnswerAfter base (take c.args.place c.args.events.now) session answer
    → Contains answers answer =
    λ answer after. c.requires.all answer (subst (λ l. IsAnswerAfter base l session answer) (sym first) after) in
    illegal_return base c.args.events.now c.args.place session c.args.seen.now answers c.requires.within
    c.requires.returns
    some
    (subst (λ l. All (IsAnswerAfter base l session) answers) first
    (subst (λ l. All (IsAnswerAfter base c.args.first.now session) l) c.as_slice-2.ensures.value
    (c.in_ok-given.ensures (search (rules, tests)))))
    all
    (subst (λ l. All (λ answer. shows_answer c.args.seen.now answer ≡ false) l) c.as_slice.ensures.value
    (c.shows_none.ensures (search (rules, tests))))
