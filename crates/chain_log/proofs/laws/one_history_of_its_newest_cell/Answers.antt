use Rattle.std.proofs.Common.{ap, sym, ◌∙◌}
use Rattle.chain_log.{specs.Cells.newest_of, proofs.ChainStores.all_seen}
use Rattle.chain_log.proofs.laws.one_history_of_its_newest_cell.Goals as goal

pub returns : goal.returns
returns c sizes words views rule pass knows same =
    all_seen rule pass knows (ap (λ s. newest_of s pass.known.seen) knows.sessions ∙ sym same)
