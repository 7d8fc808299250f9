use Rattle.std.{proofs.Common.{◌≡◌, length, vec_capacity}, specs.List.{All, AllZip, AllWithin}}
use Rattle.decision_log.specs.{History.Begins, Calls.MeetsFirst}
use Rattle.chain_log.specs.RingPass.{log_of}
use Rattle.xa_races.specs.Long.{known_in, Keeps}
use Rattle.xa_races.proofs.meeting.tell_each.Given as goal

abbrev pub invariant-loop-index : goal.invariant-loop-index
invariant-loop-index l =
    AllZip Keeps l.fn.others.items l.others.items
    × All (λ session. log_of session.member.pass ≡ log_of l.last.member.pass) l.others.items
    × (l.last.store.value ≡ l.fn.last.store.value)
    × MeetsFirst (known_in l.fn.last) (known_in l.last)
    × AllWithin (λ session. Begins (known_in l.fn.last).seen (known_in session).seen) l.others.items 0 l.index
    × (length l.others.items ≡ length l.fn.others.items)
    × (vec_capacity l.others ≡ vec_capacity l.fn.others)
