use Rattle.std.proofs.Common.{◌≤◌, Bool, Vec, Global, List, length, map, ap, ◌∙◌, subst, inr, arith}
use Rattle.xa_xid.specs.declared.statement.Statement.{Statement}
use Rattle.xa_session.specs.declared.answer.Answer.{Answer}
use Rattle.xa_server.specs.State.{State}
use Rattle.xa_lines.specs.Printed.{converts}
use Rattle.xa_store.specs.{Passes.identity_of, Legal.{IsOutcome, Blames}}
use Rattle.xa_races.{specs.{Outcome.outcome_text, Race.part_at}, proofs.Held.raced_in_log}
use Rattle.xa_races.proofs.RaceRuns.{have_room, own_room, own_sessions, part_at-map}
use Rattle.xa_races.proofs.holding.hold_in_log.Goals as goal

pub returns-in-Ok-clause-held : goal.returns-in-Ok-clause-held
returns-in-Ok-clause-held g c lines last given =
    let both = c.in_ok-both.ensures in
    let identity = identity_of c.in_ok-both.both.0.log in
    let runs = c.in_ok-both.both.1.items in
    let outcome = c.in-Ok.outcome in
    let raced = c.in-Ok.ensures.legal in
    let P : State → Type 0 = λ base. IsOutcome base runs outcome in
    let room : length outcome.history.items ≤ identity.capacity =
    own_room identity outcome.history.items runs outcome.passes.items both.belongs raced.passes raced.history in
    record {
      runs = runs;
      outcome = outcome;
      are_runs = both.runs lines last given;
      room = have_room identity c.args.capacity runs both.belongs both.room;
      opened = c.in-Ok.ensures.opened;
      held = record {
        explained = subst P both.empty raced;
        within = omega (arith, room, both.room);
        own = own_sessions identity outcome.history.items runs outcome.passes.items both.sessions both.belongs
            raced.passes raced.history;
      };
      text_is = c.in_ok-text-in-Ok.ensures lines
          (λ index. ap (λ list. part_at list index) (ap (map
          (λ (list : Vec Bool Global). list.items)) c.as_slice-in-Ok.ensures.value ∙ c.in_ok-asked.ensures
          ∙ ap (map (λ (list : Vec Statement Global). map converts list.items)) c.as_slice.ensures.value)
          ∙ part_at-map (λ list. list.items) converts c.args.lists.items index ∙ ap (map converts) (given index))
          ∙ ap (λ entries. outcome_text lines entries (map (λ answers. answers.items) c.as_slice-answers.result.now))
          c.as_slice-history.ensures.value
          ∙ ap (λ (l : List (Vec Answer Global)). outcome_text lines c.in-Ok.outcome.history.items
          (map (λ answers. answers.items) l)) c.as_slice-answers.ensures.value;
    }

pub returns-in-Ok-clause-raced : goal.returns-in-Ok-clause-raced
returns-in-Ok-clause-raced g c lines last given =
    raced_in_log (g.G.Gate.may_answer c.args.gate.now) c.args.capacity lines c.in_ok-text-in-Ok.text.items
    (returns-in-Ok-clause-held g c lines last given)

pub returns-clause-cause : goal.returns-clause-cause
returns-clause-cause g c lines last given =
    let both = c.in_ok-both.ensures in
    let identity = identity_of c.in_ok-both.both.0.log in
    let runs = c.in_ok-both.both.1.items in
    let P : State → Type 0 = λ base. Blames (g.G.Gate.may_answer c.args.gate.now) base runs c.in-Err.fault in
    inr (record {
      runs = runs;
      raced = c.in-Err.fault;
      are_runs = both.runs lines last given;
      room = have_room identity c.args.capacity runs both.belongs both.room;
      told = c.script_fault.ensures;
      blamed = subst P both.empty c.in-Err.ensures.fault;
    })
