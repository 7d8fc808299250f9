use Rattle.std.proofs.Common.{◌≡◌, ◌<◌, Some, slice_get, length, sym, subst, ap, ◌∙◌, arith}
use Rattle.std.proofs.lemmas.Option.{slice_get-get_or}
use Rattle.xa_judge.{specs.Found.{config_of, Has}, proofs.Places.place_mapped}
use Rattle.xa_judge.proofs.known.is_at.Goals as goal

-- what stands at a place of the list stands in the list
pub returns-in_ok-same-in-Some : goal.returns-in_ok-same-in-Some
returns-in_ok-same-in-Some c =
    let look = c.in-Some.ensures in
    let within : c.args.place < length c.args.known.now = omega (arith, look.lookup.0) in
    let found : slice_get c.args.known.now c.args.place ≡ Some c.in-Some.other.now =
    slice_get-get_or c.args.known.now c.args.place _ within ∙ ap Some (sym look.lookup.1) in
    λ same. subst (λ one. Has c.args.known.now one) (sym (c.in_ok-same-in-Some.ensures same))
    (place_mapped config_of c.args.known.now c.args.place c.in-Some.other.now found)
