use Rattle.std.proofs.Common.{Bool, Vec, Global, List, length, map, ap, sym, ◌∙◌, subst, inr, arith}
use Rattle.std.proofs.lemmas.List.{length-take}
use Rattle.xa_xid.specs.declared.statement.Statement.{Statement}
use Rattle.xa_session.specs.declared.answer.Answer.{Answer}
use Rattle.xa_lines.specs.Printed.{converts}
use Rattle.xa_races.specs.{Outcome.{AreLists, AreListsFrom, outcome_text}, Race.part_at}
use Rattle.xa_races.proofs.{Held.{raced_on, lists_from}, RaceRuns.{length_mapped, part_at-map}}
use Rattle.xa_races.proofs.holding.hold_endless.Goals as goal

pub returns-in-Ok-clause-held : goal.returns-in-Ok-clause-held
returns-in-Ok-clause-held g c lines last given =
    let are : AreLists lines (map (λ list. list.items) c.truncate.new.self.items) = record {
      count = length_mapped (λ (list : Vec Statement Global). list.items) c.truncate.new.self.items
          ∙ ap length c.truncate.ensures.items
          ∙ (let long = length-take c.args.greatest c.args.lists.items in
          omega (arith, long, c.requires.all, c.requires.within, c.args.lists.ok.0, last));
      each = subst (λ (l : List (Vec Statement Global)). AreListsFrom 1 lines (map (λ list. list.items) l))
          (sym c.truncate.ensures.items)
          (lists_from 1 lines c.args.greatest c.args.lists.items given);
    } in
    record {
      lists = map (λ list. list.items) c.truncate.new.self.items;
      are_lists = are;
      outcome = c.in-Ok.outcome;
      held = c.in-Ok.ensures.outcome;
      text_is = c.in_ok-printed-in-Ok.ensures lines
          (λ index. ap (λ list. part_at list index) (ap (map
          (λ (list : Vec Bool Global). list.items)) c.as_slice-in-Ok.ensures.value ∙ c.in_ok-asked.ensures
          ∙ ap (map (λ (list : Vec Statement Global). map converts list.items)) c.as_slice.ensures.value)
          ∙ part_at-map (λ list. list.items) converts c.args.lists.items index ∙ ap (map converts) (given index))
          ∙ ap (λ entries. outcome_text lines entries (map (λ answers. answers.items) c.as_slice-lists.result.now))
          c.as_slice-entries.ensures.value
          ∙ ap (λ (l : List (Vec Answer Global)). outcome_text lines c.in-Ok.outcome.history.items
          (map (λ answers. answers.items) l)) c.as_slice-lists.ensures.value;
    }

pub returns-in-Ok-clause-raced : goal.returns-in-Ok-clause-raced
returns-in-Ok-clause-raced g c lines last given =
    raced_on (g.G.Gate.may_answer c.args.gate.now) c.args.rows lines c.in_ok-printed-in-Ok.printed.items
    (returns-in-Ok-clause-held g c lines last given)

pub returns-clause-cause : goal.returns-clause-cause
returns-clause-cause g c lines last given =
    let are : AreLists lines (map (λ list. list.items) c.truncate.new.self.items) = record {
      count = length_mapped (λ (list : Vec Statement Global). list.items) c.truncate.new.self.items
          ∙ ap length c.truncate.ensures.items
          ∙ (let long = length-take c.args.greatest c.args.lists.items in
          omega (arith, long, c.requires.all, c.requires.within, c.args.lists.ok.0, last));
      each = subst (λ (l : List (Vec Statement Global)). AreListsFrom 1 lines (map (λ list. list.items) l))
          (sym c.truncate.ensures.items)
          (lists_from 1 lines c.args.greatest c.args.lists.items given);
    } in
    inr (record {
      lists = map (λ list. list.items) c.truncate.new.self.items;
      are_lists = are;
      raced = c.in-Err.fault;
      told = c.script_fault.ensures;
      blamed = c.in-Err.ensures.fault;
    })
