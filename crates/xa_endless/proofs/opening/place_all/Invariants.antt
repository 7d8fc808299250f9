use Rattle.std.{proofs.Common.{◌≡◌, length}, specs.List.All}
use Rattle.chain_log.specs.RingPass.{identity_of}
use Rattle.xa_endless.proofs.opening.place_all.Given as goal

abbrev pub invariant-loop-pass : goal.invariant-loop-pass
invariant-loop-pass l = All (λ slot. identity_of slot.value ≡ identity_of l.log) l.places.items
    × (length l.places.items ≡ length l.yielded)
