use Rattle.std.proofs.Common.{Bor, List, ℕ, ◌∙◌}
use Rattle.xa_server.proofs.Packing.{rows_pushed}
use Rattle.xa_server.proofs.packed.Packed.push.Goals as goal

pub returns : goal.returns
returns c =
    rows_pushed (λ (b : Bor (List ℕ)). b.now) c.self.inside.bytes.items c.extend_from_slice.new.self.items
    c.extend_from_slice-2.new.self.items c.args.row.key.now c.bytes_of.result.now c.len.result c.args.row.value
    c.in_ok-place.place c.self.inside.places.items c.push.new.self.items c.args.self.now
    c.self.invariant c.in_ok-extend_from_slice.ensures.items c.bytes_of.ensures
    c.in_ok-extend_from_slice-2.ensures.items (c.len.ensures ∙ c.self.inside.bytes.ok.0)
    c.in_ok-place.ensures.place c.in_ok-push.ensures.items c.self.view_is
