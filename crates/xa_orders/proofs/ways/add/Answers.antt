use Rattle.std.proofs.Common.{◌≡◌, refl, inl, subst}
use Rattle.xa_orders.specs.{Orders.Any, Found.config_of}
use Rattle.xa_orders.proofs.ways.add.Goals as goal

pub returns-then-is_there : goal.returns-then-is_there
returns-then-is_there c =
    inl (
      subst (Any (λ way. config_of way ≡ config_of c.args.one)) c.as_slice.ensures.value
          (c.in_ok-is_there.ensures c.if-is_there.true),
      refl,
    )
