use Rattle.std.proofs.Common.{refl}
use Rattle.xa_statement.specs.declared.state.{State.State, RowVerb.TheVariants.{Gets, Puts, Deletes}}
use Rattle.xa_statement.{specs.declared.token.Keyword.TheVariants.{Xa, Put, Get, Del}, proofs.Ways.goes_known}
use Rattle.xa_statement.proofs.usual.read_any.Goals as goal

pub read_xa-requires : goal.read_xa-requires
read_xa-requires c =
    goes_known c.args.text.now c.in-Some-Xa-default.rest.now State.AtFirst State.AfterXa
    c.in-Some-Xa-default.field-0-0 Xa c.in-Some-Xa-default.field-0-0-is refl c.in-Some-Xa-default.ensures

pub read_put-requires : goal.read_put-requires
read_put-requires c =
    goes_known c.args.text.now c.in-Some-Put-default.rest.now State.AtFirst (State.WantsKey Puts)
    c.in-Some-Put-default.field-0-0 Put c.in-Some-Put-default.field-0-0-is refl c.in-Some-Put-default.ensures

pub read_get-requires : goal.read_get-requires
read_get-requires c =
    goes_known c.args.text.now c.in-Some-Get-default.rest.now State.AtFirst (State.WantsKey Gets)
    c.in-Some-Get-default.field-0-0 Get c.in-Some-Get-default.field-0-0-is refl c.in-Some-Get-default.ensures

pub read_del-requires : goal.read_del-requires
read_del-requires c =
    goes_known c.args.text.now c.in-Some-Del-default.rest.now State.AtFirst (State.WantsKey Deletes)
    c.in-Some-Del-default.field-0-0 Del c.in-Some-Del-default.field-0-0-is refl c.in-Some-Del-default.ensures
