-- What a session of a long race says, one statement after another.
use Rattle.std.proofs.Common.{◌≡◌, ℕ, Bool, true, ◌<◌, List, length, take, ap, sym, ◌∙◌, Some, arith}
use Rattle.std.specs.{Prelude.slice_get, List.All}
use Rattle.xa_xid.specs.declared.statement.Statement.{Statement}
use Rattle.xa_words.specs.Entry.{Entry}
use Rattle.xa_server.specs.{State.no_state, Step.enters}
use Rattle.decision_log.specs.{declared.known.Known.Known, History.{Begins, entries_of}}
use Rattle.decision_log.proofs.Histories.{get_begins, begins_itself, begins_through}
use Rattle.xa_session.specs.{Answer.IsAnswered, Replay.state_at, declared.answer.Answer.Answer}
use Rattle.chain_log.specs.RingPass.{identity_of, log_of}
use Rattle.xa_endless.specs.{Seen.HasOnlySeen, declared.session.EndlessSession.EndlessSession}
use Rattle.xa_endless.specs.declared.store.EndlessStore.{EndlessStore}
use Rattle.xa_store.specs.{Gathered.AddsNothing, declared.race_fault.RaceFault.RaceFault}
use Rattle.xa_store.proofs.Legality.{IsOnTheWay, legal_longer, no_further}
use Rattle.xa_races.specs.{Long.{known_in, IsAddedBy, HaltsAt, StopsAt}, declared.added.Added.Added}

-- an entry that was added is at its place in all that is seen later
pub added_longer : (front list : List Entry) (session : ℕ) (added : List Added) → Begins front list
    → All (IsAddedBy front session) added
    → All (IsAddedBy list session) added
added_longer front list session added begins all = grind (arith, get_begins)

-- a session of the same store is of the same log
pub same_log : (old new : EndlessSession) → new.store.value ≡ old.store.value
    → log_of new.member.pass ≡ log_of old.member.pass
same_log old new same = new.belongs ∙ ap (λ (store : EndlessStore). identity_of store.log) same ∙ sym old.belongs

-- the entries of a session's number in what it has seen are those that it knows as its own
pub own_part : (session : EndlessSession) → entries_of (known_in session).number (known_in session).seen
    ≡ (known_in session).mine
own_part session = session.member.pass.state.part

-- the statements before `place` were answered, and the one there halts with the fault: the run stops at it
module _ (gate : ℕ → ℕ → Bool → Type 0) (before : Known) (now new : EndlessSession) (statements : List Statement)
    (answers : List Answer) (place : ℕ)
    (statement : Statement) where
  pub stops_at : (fault : RaceFault) → place < length statements → slice_get statements place ≡ Some statement
      → new.store.value ≡ now.store.value
      → IsOnTheWay no_state before (known_in now) (take place statements) answers
      → HaltsAt gate place statement fault now new
      → StopsAt gate before statements fault new
  stops_at fault below given store way is = grind (arith, legal_longer, no_further, own_part)

-- a session that stops at a statement has seen no less than before
pub halts_begins : (gate : ℕ → ℕ → Bool → Type 0) (place : ℕ) (statement : Statement) (fault : RaceFault)
    (now new : EndlessSession)
    → HaltsAt gate place statement fault now new → Begins (known_in now).seen (known_in new).seen
halts_begins gate place statement fault now new is = grind (arith, begins_itself)

-- if a session has seen more than the entries before its answer's place, the statement was logged
pub entered_where_longer : (statement : Statement) (answer : Answer) (old new : Known)
    → IsAnswered no_state statement answer old new
    → answer.place < length new.seen → enters (state_at no_state new.seen answer.place) old.number statement ≡ true
entered_where_longer statement answer old new answered longer = grind (arith)

-- a session that says nothing adds nothing
pub rests_itself : (known : Known) → AddsNothing known known
rests_itself known = grind (arith, begins_itself)

-- a session that adds nothing, and then only sees more, adds nothing in both calls together
pub rests_more : (old now new : Known) → AddsNothing old now → HasOnlySeen now new → AddsNothing old new
rests_more old now new rests seen = grind (arith, begins_through)
