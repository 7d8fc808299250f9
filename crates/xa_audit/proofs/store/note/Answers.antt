use Rattle.std.proofs.Common.{ap, ◌∙◌}
use Rattle.xa_xid.specs.Xid.{xid_cmp}
use Rattle.xa_audit.{specs.Lives.noted, proofs.Lists.put_again}
use Rattle.xa_audit.proofs.store.note.Goals as goal

pub returns : goal.returns
returns c =
    put_again xid_cmp c.args.lives.now c.take_lives-known.new.lives c.insert.new.self c.args.xid _ _
    c.take_lives-known.ensures.taken c.in_ok-insert.ensures.updates.0
    (c.in_ok-note.ensures ∙ ap (λ known. noted known c.args.deed) c.take_lives-known.ensures.known)
