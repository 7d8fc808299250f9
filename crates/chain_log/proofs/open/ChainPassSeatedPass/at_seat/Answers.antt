use Rattle.std.proofs.Common.{[], sym, ap, ◌∙◌}
use Rattle.chain_log.{specs.Cells.newest_of, proofs.Names.name_zero}
use Rattle.chain_log.proofs.open.ChainPassSeatedPass.at_seat.Goals as goal

pub invariant_of-result-clause-named : goal.invariant_of-result-clause-named
invariant_of-result-clause-named c =
    sym (ap (λ h. newest_of h.sessions h.known.seen) c.requires.issued ∙ name_zero c.args.sizes.now.sessions [])
