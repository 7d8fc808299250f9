use Rattle.std.{proofs.Common.{◌≡◌, length, vec_capacity}, specs.List.All}
use Rattle.chain_log.specs.RingPass.{log_of}
use Rattle.xa_store.proofs.Gathering.{Round}
use Rattle.xa_races.{specs.Long.known_in, proofs.Gathering.Meets}
use Rattle.xa_races.proofs.meeting.meet_each.Given as goal

abbrev pub invariant-loop-index : goal.invariant-loop-index
invariant-loop-index l =
    Round known_in Meets l.fn.others.items l.others.items (known_in l.fn.last) (known_in l.last) l.index
    × All (λ session. log_of session.member.pass ≡ log_of l.last.member.pass) l.others.items
    × (l.last.store.value ≡ l.fn.last.store.value)
    × (length l.others.items ≡ length l.fn.others.items)
    × (vec_capacity l.others ≡ vec_capacity l.fn.others)
