use Rattle.decision_log.proofs.Histories.{later_other}
use Rattle.chain_log.proofs.ring_laws.later_entries_are_of_others.Goals as goal

pub returns : goal.returns
returns c sizes words views rule pass knows place entry long is =
    later_other pass.known.number pass.known.seen rule.log pass.known.mine place entry knows.seen knows.mine knows.part
    long is
