use Rattle.std.proofs.Common.{◌≡◌, ◌+◌, refl, ◌++◌, ◌∙◌, ap, sym, append-nil, map}
use Rattle.xa_lines.specs.Printed.{converts}
use Rattle.xa_races.specs.{Race.statements_of, Outcome.session_text}
use Rattle.xa_races.proofs.Race.{answers_text-more, answers_text-none, grown}
use Rattle.xa_races.proofs.race_text.push_answers.Goals as goal

pub loop-index-init : goal.loop-index-init
loop-index-init c = λ lines asked. sym (ap (λ text. c.args.text.now.items ++ text) (answers_text-none 1 lines)
    ∙ append-nil c.args.text.now.items)

pub loop-index-preserved : goal.loop-index-preserved
loop-index-preserved c = λ lines asked.
    let list = c.index-answers-index.result in
    let session = c.loop-index.index + 1 in
    let told : c.push_session.new.text.items ≡ c.loop-index.text.items
    ++ session_text session (map converts (statements_of session lines)) list.items =
    c.in_ok-push_session.ensures
    ∙ ap (λ text. c.loop-index.text.items ++ text)
    (ap (λ flags. session_text session flags c.as_slice.result.now) (c.list_at.ensures ∙ asked c.loop-index.index)
    ∙ ap (λ answers. session_text session (map converts (statements_of session lines)) answers)
    c.as_slice.ensures.value) in
    grown _ _ _ _ _ _ (c.loop-index.invariant lines asked) told
    (answers_text-more (λ answers. answers.items) lines c.args.answers.now c.loop-index.index list
    session c.loop-index-test.true c.index-answers-index.is refl)
