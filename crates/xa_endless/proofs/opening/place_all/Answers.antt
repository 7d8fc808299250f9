use Rattle.std.proofs.Common.{◌≡◌, ap, sym, subst, ◌∙◌, ◌+◌, ◌∷◌, [], length, length-append}
use Rattle.std.{proofs.lemmas.List.Elements.All-push, specs.List.All}
use Rattle.chain_log.specs.{RingPass.identity_of, declared.ring.RingLog.RingLog}
use Rattle.xa_endless.specs.declared.{resting.RestingMember.RestingMember, slot.Slot.Slot}
use Rattle.xa_endless.proofs.opening.place_all.Goals as goal

pub loop-pass-preserved : goal.loop-pass-preserved
loop-pass-preserved c =
    let IsOurs : Slot RestingMember RingLog → Type 0 = λ slot. identity_of slot.value ≡ identity_of c.args.log.now in
    let slots = c.loop-pass.places.items in
    let slot = c.new-in-loop-pass.result in (
      subst (All IsOurs) (sym c.in_ok-push.ensures.items)
          (All-push IsOurs slots slot c.loop-pass.invariant.0 (ap identity_of c.new-in-loop-pass.ensures)),
      ap length c.in_ok-push.ensures.items ∙ length-append slots (slot ∷ []) ∙ ap (λ n. n + 1) c.loop-pass.invariant.1
          ∙ sym (length-append c.loop-pass.yielded (c.in-Some.pass ∷ [])),
    )
