use Rattle.std.proofs.Common.{ap, ◌∙◌}
use Rattle.xa_server.proofs.Sharing.{several_in, several_left}
use Rattle.std.specs.FinSet as set
use Rattle.xa_server.proofs.several_sharers.SeveralSharers.remove.Goals as goal

pub returns : goal.returns
returns c =
    ap (λ few. several_in few c.take_out.new.many) c.take_out_of_list.ensures
    ∙ several_left c.self.inside.few.items c.self.inside.many c.take_out.new.many c.args.xid.now c.take_out.ensures
    ∙ ap (λ sharers. set.remove sharers c.args.xid.now) c.self.view_is
