use Rattle.std.proofs.{Common.{map, sym, ap, ◌∙◌, rules}, lemmas.List.length-map}
use Rattle.xa_server.{specs.Parts.sorted_out, proofs.Parted.{adds_row, joined, joined-none, none_left}}
use Rattle.xa_server.proofs.runs.sorted_out.Goals as goal

pub loop-row-preserved-in-Continue-branch-2 : goal.loop-row-preserved-in-Continue-branch-2
loop-row-preserved-in-Continue-branch-2 c = record {
  all = adds_row (λ list. list.items) c.loop-row.lists.items c.part_of.result c.in-Some-get_mut.list.now c.push.new.self
      c.in-Some.row _ _ c.args.rows.items c.loop-row.invariant.all c.loop-row.invariant.count c.in-Some.ensures.steps.0
      c.part_of.ensures.which c.part_of.ensures.below (search rules) c.in_ok-push.ensures.items;
  count = search rules;
}

pub returns : goal.returns
returns c =
    sym (joined-none (map (λ list. list.items) c.loop-row.lists.items) 64 0
    (length-map c.loop-row.lists.items (λ list. list.items) ∙ c.loop-row.invariant.count))
    ∙ ap (λ rows. joined (map (λ list. list.items) c.loop-row.lists.items) (sorted_out 64 0 rows))
    (sym (none_left _ (sym c.loop-row.row-iterator.rest.ok.0 ∙ c.in-None.ensures.steps.0)))
    ∙ c.loop-row.invariant.all
