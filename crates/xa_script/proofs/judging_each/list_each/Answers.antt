use Rattle.std.proofs.Common.{◌∙◌, ◌∷◌, [], ap, refl, List, ℕ, length, length-append, arith}
use Rattle.std.proofs.lemmas.Iterator.{Adapters.YieldsList-from_vec, Consumers.{YieldsList-turn, YieldsList-end}}
use Rattle.std.specs.Prelude.{option_map, unwrap_or}
use Rattle.xa_script.{specs.{Listing.heading, Several.IsListing}, proofs.Audited.none_known}
use Rattle.xa_script.proofs.SeveralListed.{none_listed, list_more, list_all}
use Rattle.xa_script.proofs.judging_each.list_each.Goals as goal

pub loop-input-init : goal.loop-input-init
loop-input-init g c =
    let before = heading c.args.tap (length c.args.inputs.items) in
    let text = c.in_ok-heading.field-0.items in
    record {
      count = refl;
      tap = refl;
      taken = λ records none. none_known
          (λ all. IsListing c.args.base.now c.args.allowances.now c.args.asked c.args.tap before [] all 0 text) records
          (none_listed c.args.base.now c.args.allowances.now c.args.asked c.args.tap before text
          (c.in_ok-heading.ensures ∙ ap (λ (count : ℕ). heading c.args.tap count)
          (c.len.ensures ∙ c.args.inputs.ok.0))) none;
    }

pub list_next-requires-clause-room : goal.list_next-requires-clause-room
list_next-requires-clause-room g c =
    let from = c.into_iter-input-iterator.ensures.into_iter_gives in
    let turn =
    YieldsList-turn (YieldsList-from_vec {s = c.into_iter-input-iterator.result} c.args.inputs.items from.0
    (from.1 ∙ c.args.inputs.ok.0)) c.loop-input.yielded
    c.loop-input.input-iterator c.loop-input.yielded_by c.next.result c.next.new.self c.in-Some.input c.in-Some.is
    c.next.ensures.steps in
    omega (arith, turn.0, c.requires.count, c.loop-input.invariant.count)

pub loop-input-preserved : goal.loop-input-preserved
loop-input-preserved g c =
    let so_far = c.loop-input.invariant in
    let yielded = c.loop-input.yielded in
    let input = c.in-Some.input in
    let old = c.loop-input.listed in
    let new = c.list_next.new.listed in
    record {
      count = omega (arith, so_far.count, c.in_ok-list_next.ensures.listed.count, length-append yielded (input ∷ []));
      tap = c.in_ok-list_next.ensures.listed.tap ∙ so_far.tap;
      taken = list_more yielded input (λ source. g.I.Read.remaining source.inner)
          (λ source. unwrap_or (option_map (λ name. name.now) source.name) []) c.args.base.now c.args.allowances.now
          c.args.asked c.args.tap old.tap (heading c.args.tap (length c.args.inputs.items)) old.count old.status
          new.status old.text.items new.text.items so_far.tap so_far.count so_far.taken
          c.in_ok-list_next.ensures.listed.taken;
    }

pub returns-clause-listed : goal.returns-clause-listed
returns-clause-listed g c =
    let from = c.into_iter-input-iterator.ensures.into_iter_gives in
    let end =
    YieldsList-end (YieldsList-from_vec {s = c.into_iter-input-iterator.result} c.args.inputs.items from.0
    (from.1 ∙ c.args.inputs.ok.0)) c.loop-input.yielded
    c.loop-input.input-iterator c.loop-input.yielded_by c.next.result c.next.new.self c.in-None.is
    c.next.ensures.steps in
    list_all c.loop-input.yielded c.args.inputs.items (λ source. g.I.Read.remaining source.inner)
    (λ source. unwrap_or (option_map (λ name. name.now) source.name) []) c.args.base.now c.args.allowances.now
    c.args.asked c.args.tap (heading c.args.tap (length c.args.inputs.items)) c.loop-input.listed.status
    c.loop-input.listed.text.items end.0 c.loop-input.invariant.taken
