use Rattle.std.{proofs.Common.{◌≡◌, ℕ, List, [], length, map, Some}, specs.Prelude.{option_map, unwrap_or}}
use Rattle.xa_script.specs.{Listing.heading, Several.IsListing}
use Rattle.xa_script.proofs.judging_each.list_each.Given as goal

abbrev pub invariant-loop-input : goal.invariant-loop-input
invariant-loop-input g l = record {
  count : l.listed.count ≡ length l.yielded;
  tap : l.listed.tap ≡ l.tap;
  taken : (records : List (List ℕ)) → map (λ input. g.I.Read.remaining input.inner) l.yielded ≡ map Some records
      → IsListing l.base l.allowances l.asked l.tap (heading l.tap (length l.fn.inputs.items))
      (map (λ input. unwrap_or (option_map (λ name. name.now) input.name) []) l.yielded) records l.listed.status
      l.listed.text.items;
}
