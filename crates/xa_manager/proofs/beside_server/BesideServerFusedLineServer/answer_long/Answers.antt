use Rattle.std.proofs.Common.{refl, inl}
use Rattle.xa_manager.specs.declared.response.Response.TheVariants.{Unread}
use Rattle.xa_manager.proofs.beside_server.BesideServerFusedLineServer.answer_long.Goals as goal

pub returns : goal.returns
returns g c =
    inl (
      Unread 0,
      inl (record { told = refl; stands = refl }),
      c.unread.ensures,
    )
