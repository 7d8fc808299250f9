use Rattle.std.proofs.Common.{arith, ◌++◌, ◌∙◌, ap, sym, append-nil}
use Rattle.xa_races.proofs.{Race.{session_text-more, session_text-none, session_text-whole, grown}, RaceRuns.get_or-any}
use Rattle.xa_races.proofs.race_text.push_session.Goals as goal

pub loop-index-init : goal.loop-index-init
loop-index-init c =
    sym (ap (λ text. c.args.text.now.items ++ text)
    (session_text-none c.args.session c.args.asked.now c.args.answers.now)
    ∙ append-nil c.args.text.now.items)

pub loop-index-preserved : goal.loop-index-preserved
loop-index-preserved c =
    grown _ _ _ _ _ _ c.loop-index.invariant c.in_ok-push_answer.ensures
    (session_text-more c.args.session c.args.asked.now c.args.answers.now c.loop-index.index _
    c.index-answers-index.result
    (omega (arith, c.loop-index-test.true, c.min-index-end.ensures))
    (omega (arith, c.loop-index-test.true, c.min-index-end.ensures))
    (get_or-any c.args.asked.now c.loop-index.index _ _ (omega
    (arith, c.loop-index-test.true, c.min-index-end.ensures)))
    c.index-answers-index.is)

pub returns : goal.returns
returns c =
    c.loop-index.invariant
    ∙ ap (λ text. c.args.text.now.items ++ text)
    (session_text-whole c.args.session c.args.asked.now c.args.answers.now c.loop-index.index
    (omega (arith, c.loop-index-test.false, c.min-index-end.ensures)))
