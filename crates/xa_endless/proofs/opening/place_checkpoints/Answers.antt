use Rattle.std.proofs.Common.{◌≡◌, ap, sym, subst, ◌∙◌, ◌+◌, ◌∷◌, [], length, length-append}
use Rattle.std.{proofs.lemmas.List.Elements.All-push, specs.List.All}
use Rattle.chain_log.specs.{RingPass.identity_of, declared.ring.RingLog.RingLog}
use Rattle.xa_endless.specs.declared.{resting.RestingCheckpoint.RestingCheckpoint, slot.Slot.Slot}
use Rattle.xa_endless.proofs.opening.place_checkpoints.Goals as goal

pub loop-spare-preserved : goal.loop-spare-preserved
loop-spare-preserved c =
    let IsOurs : Slot RestingCheckpoint RingLog → Type 0 =
    λ slot. identity_of slot.value ≡ identity_of c.args.log.now in
    let slots = c.loop-spare.places.items in
    let slot = c.new-slot.result in (
      subst (All IsOurs) (sym c.in_ok-push.ensures.items)
          (All-push IsOurs slots slot c.loop-spare.invariant.0 (ap identity_of c.new-slot.ensures)),
      ap length c.in_ok-push.ensures.items ∙ length-append slots (slot ∷ []) ∙ ap (λ n. n + 1) c.loop-spare.invariant.1
          ∙ sym (length-append c.loop-spare.yielded (c.in-Some.spare ∷ [])),
    )
