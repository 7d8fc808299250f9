use Rattle.std.proofs.Common.{◌∷◌, [], ap, length, length-append, arith}
use Rattle.xa_script.proofs.carrying_out.opened_each.Goals as goal

pub loop-name-preserved : goal.loop-name-preserved
loop-name-preserved g c =
    omega (
      arith,
      ap length c.in_ok-push.ensures.items,
      length-append c.loop-name.inputs.items
          (c.watched.result ∷ []),
      c.loop-name.invariant,
    )
