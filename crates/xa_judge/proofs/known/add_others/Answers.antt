use Rattle.std.proofs.Common.{ap, ◌∙◌, Some}
use Rattle.xa_judge.specs.{Found.config_of, Explained.effect_of}
use Rattle.xa_judge.proofs.known.add_others.Goals as goal

pub returns-in_ok-add_effects-in-Some-clause-has : goal.returns-in_ok-add_effects-in-Some-clause-has
returns-in_ok-add_effects-in-Some-clause-has c = λ one act config at is apart leads.
    c.in_ok-add_effects-in-Some.ensures.has one act config at
    (ap (λ n. effect_of (config_of one) n act) c.in-Some.ensures.number ∙ leads)

pub returns-in_ok-add_effects-in-Some-clause-only : goal.returns-in_ok-add_effects-in-Some-clause-only
returns-in_ok-add_effects-in-Some-clause-only c = λ one at unanswered.
    c.in_ok-add_effects-in-Some.ensures.only one c.args.returning.now at
    (λ same. c.is_returning.ensures.no c.if-is_returning.false (same ∙ ap Some c.in-Some.ensures.number)) unanswered
