use Rattle.std.proofs.Common.{ap, ◌∙◌, arith, rules, [], ◌∷◌, refl}
use Rattle.xa_words.specs.Entry.{may_be_entry}
use Rattle.xa_server.specs.State.{no_state}
use Rattle.xa_session.{proofs.Entering.entering_makes_entry, specs.Replay.state_at}
use Rattle.xa_races.{specs.Long.{known_in, SaysOne}, proofs.Statements.entered_where_longer}
use Rattle.xa_races.proofs.saying.say_one.Goals.{then-seen-place, else-seen-place}
use Rattle.xa_races.proofs.saying.say_one.Goals as goal

pub entering-entry-requires : goal.entering-entry-requires
entering-entry-requires g c =
    let old = known_in c.args.session.now in
    let new = known_in c.answer_one.new.session in
    let answered = c.in_ok-answer.ensures.ends.answered in
    ap may_be_entry c.copy.ensures
    ∙ entering_makes_entry (state_at no_state new.seen c.in_ok-answer.answer.place) old.number c.args.statement.now
    (entered_where_longer c.args.statement.now c.in_ok-answer.answer old new answered
    (omega (arith, c.if-seen-place.true, c.seen.ensures)))

pub returns-clause-ok : goal.returns-clause-ok
returns-clause-ok g c = elim c.if-seen-place.branch [
  | then-seen-place w ↦ record {
    answer = c.in_ok-answer.answer;
    let_in = c.in_ok-answer.ensures.ends;
    answers = search rules;
    added = record { place = c.in_ok-answer.answer.place; entry = w.entering-entry.result } ∷ [];
    more = search rules;
    few = search rules;
    noted = λ below. omega arith;
    none = λ short. absurd (omega (arith, w.if-seen-place.true, c.seen.ensures, short));
    own = search rules;
  }
  | else-seen-place w ↦ record {
    answer = c.in_ok-answer.answer;
    let_in = c.in_ok-answer.ensures.ends;
    answers = search rules;
    added = [];
    more = search rules;
    few = search rules;
    noted = λ below. absurd (omega (arith, w.if-seen-place.false, c.seen.ensures, below));
    none = λ short. refl;
    own = search rules;
  }
]
