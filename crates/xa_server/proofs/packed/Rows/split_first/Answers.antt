use Rattle.xa_server.{specs.Packed.Fits, proofs.Packing.others_so}
use Rattle.xa_server.proofs.packed.Rows.split_first.Goals as goal

pub invariant_of-rest : goal.invariant_of-rest
invariant_of-rest c =
    others_so (Fits c.self.inside.bytes.now) c.self.inside.places.now c.in_ok-place.place.now c.in_ok-place.others.now
    c.in_ok-place.ensures.cases.0 c.self.invariant
