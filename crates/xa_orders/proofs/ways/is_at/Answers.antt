use Rattle.std.proofs.{Common.{◌≡◌, ◌<◌, Some, slice_get, length, sym, ap, ◌∙◌, arith}, lemmas.Option.slice_get-get_or}
use Rattle.xa_orders.{specs.Found.config_of, proofs.Lists.any_at}
use Rattle.xa_orders.proofs.ways.is_at.Goals as goal

-- what stands at a place of the list is one of it
pub returns-in_ok-is_same-in-Some : goal.returns-in_ok-is_same-in-Some
returns-in_ok-is_same-in-Some c =
    let look = c.in-Some.ensures in
    let within : c.args.place < length c.args.known.now = omega arith in
    let found : slice_get c.args.known.now c.args.place ≡ Some c.in-Some.other.now =
    slice_get-get_or c.args.known.now c.args.place _ within ∙ ap Some (sym look.lookup.1) in
    λ same. any_at (λ way. config_of way ≡ config_of c.args.one.now) c.args.known.now c.args.place c.in-Some.other.now
    found (c.in_ok-is_same-in-Some.ensures same)
