use Rattle.std.proofs.Common.{subst, sym, ◌<◌}
use Rattle.xa_record.proofs.Pairs.{calls-length}
use Rattle.xa_record.proofs.exchanging.exchange_again.Goals as goal

pub exchange_in-requires : goal.exchange_in-requires
exchange_in-requires c =
    subst (λ count. c.args.place < count) (sym (calls-length c.args.numbered.now c.args.events.now c.requires.are))
    c.requires.within
