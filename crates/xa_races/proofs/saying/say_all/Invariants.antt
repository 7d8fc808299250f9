use Rattle.std.{proofs.Common.{◌≡◌, ◌≤◌, take, length, vec_capacity}, specs.List.All}
use Rattle.xa_server.specs.State.{no_state}
use Rattle.xa_store.{specs.Legal.LetsIn, proofs.Legality.IsOnTheWay}
use Rattle.xa_races.specs.Long.{known_in, IsAddedBy}
use Rattle.xa_races.proofs.saying.say_all.Given as goal

abbrev pub invariant-loop-index : goal.invariant-loop-index
invariant-loop-index g l =
    (l.session.store.value ≡ l.fn.session.store.value)
    × IsOnTheWay no_state (known_in l.fn.session) (known_in l.session) (take l.index l.lines) l.said.answers.items
    × All (IsAddedBy (known_in l.session).seen (known_in l.fn.session).number) l.said.added.items
    × (length l.said.answers.items ≡ l.index)
    × (length l.said.added.items ≤ l.index)
    × (vec_capacity l.said.answers ≡ vec_capacity l.fn.said.answers)
    × (vec_capacity l.said.added ≡ vec_capacity l.fn.said.added)
    × LetsIn (g.G.Gate.may_answer l.fn.gate) (known_in l.fn.session).number l.index
