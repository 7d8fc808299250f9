-- The law of the machine: what a session knows is a prefix of the history with its own entries in it.
use Rattle.std.proofs.Common.{◌≡◌, ℕ, ◌≤◌, List, [], ◌∷◌, ◌++◌, length, refl, ap, sym, ◌∙◌, subst, arith}
use Rattle.std.proofs.lemmas.List.{length-append}
use mathlib.Core.Logic.{dite}
use Rattle.xa_words.specs.Entry.{Entry}
use Rattle.decision_log.specs.{History.{Begins, entries_of}, Machine.{Seen, Machine, Event, Look, Add, Looks, Appends}}
use Rattle.decision_log.specs.Machine.{Happens, Runs, opening_machine, IsState}
use Rattle.decision_log.proofs.Histories.{begins_itself, begins_more, own_last, own_other}
use native.Mathlib.Decide.{ℕ_discrete}

-- what a session knows is right: it has seen a prefix of the history, and both this prefix and the whole history have
-- just those entries of the session that it has noted as its own
pub record Knows (history : List Entry) (session : ℕ) (known : Seen) : Type 0 where
  pub begins : Begins known.seen history
  pub own : entries_of session history ≡ known.mine
  pub part : entries_of session known.seen ≡ known.mine

-- what every session of the machine knows is right for the machine's history
abbrev pub Sound : Machine → Type 0
Sound machine = (session : ℕ) → Knows machine.history session (machine.knows session)

-- a sound machine with room is in a state that the definition allows
pub state_of : (machine : Machine) → length machine.history ≤ machine.capacity → Sound machine → IsState machine
state_of machine room is = record {
  room = room;
  seen = λ session. (is session).begins;
  mine = λ session. (is session).own;
  part = λ session. (is session).part;
}

-- a look keeps the machine sound
after_look : (session : ℕ) (old new : Machine) → Looks session old new → Sound old → Sound new
after_look session old new is sound other =
    dite (ℕ_discrete other session)
    (λ e. subst (λ n. Knows new.history n (new.knows n)) (sym e)
    (rw is.history
    (record {
      begins = subst (λ list. Begins list old.history) (sym is.seen) (begins_itself old.history);
      own = (sound session).own ∙ sym is.mine;
      part = ap (entries_of session) is.seen ∙ (sound session).own ∙ sym is.mine;
    })))
    (λ n. rw (is.history, is.others other n) (sound other))

-- an entry that is added keeps the machine sound
after_add : (session : ℕ) (entry : Entry) (old new : Machine) → Appends session entry old new → Sound old → Sound new
after_add session entry old new is sound other =
    dite (ℕ_discrete other session)
    (λ e. subst (λ n. Knows new.history n (new.knows n)) (sym e)
    (rw is.history
    (record {
      begins =
          subst (λ list. Begins list (old.history ++ entry ∷ []))
          (ap (λ list. list ++ entry ∷ []) (sym is.whole) ∙ sym is.seen)
          (begins_itself (old.history ++ entry ∷ []));
      own = own_last session old.history entry is.own ∙ ap (λ list. list ++ entry ∷ []) (sound session).own
          ∙ sym is.mine;
      part =
          ap (entries_of session) is.seen ∙ own_last session (old.knows session).seen entry is.own
          ∙ ap (λ list. list ++ entry ∷ []) (sound session).part
          ∙ sym is.mine;
    })))
    (λ n.
    let own = is.own in
    rw (is.history, is.others other n)
    (record {
      begins = begins_more (old.knows other).seen old.history (entry ∷ []) (sound other).begins;
      own = own_other other old.history entry (λ e. n (sym e ∙ own)) ∙ (sound other).own;
      part = (sound other).part;
    }))

-- each event keeps the machine sound
after_event : (event : Event) (old new : Machine) → Happens event old new → Sound old → Sound new
after_event (Look session) old new is sound = after_look session old new is sound
after_event (Add session entry) old new is sound = after_add session entry old new is sound

-- events, one after another, keep the machine sound
after_events : (events : List Event) (old new : Machine) → Runs events old new → Sound old → Sound new
after_events [] old new is sound = subst Sound (sym is) sound
after_events (event ∷ events) old new is sound =
    after_events events is.0 new is.2 (after_event event old is.0 is.1 sound)

-- the machine is sound at the beginning
at_start : (capacity : ℕ) → Sound (opening_machine capacity)
at_start capacity session = record { begins = refl; own = refl; part = refl }

-- the history never gets longer than the capacity

-- the history isn't longer than the capacity
Fits : Machine → Type 0
Fits machine = length machine.history ≤ machine.capacity

-- each event keeps the history no longer than the capacity
room_after : (event : Event) (old new : Machine) → Happens event old new → Fits old → Fits new
unfolding Fits
room_after (Look session) old new is fits = omega (arith, ap length is.history, is.capacity, fits)
room_after (Add session entry) old new is fits =
    omega (arith, ap length is.history, length-append old.history (entry ∷ []), is.capacity, is.room)

-- events, one after another, make the history no longer than the capacity
room_after_all : (events : List Event) (old new : Machine) → Runs events old new → Fits old → Fits new
room_after_all [] old new is fits = subst Fits (sym is) fits
room_after_all (event ∷ events) old new is fits =
    room_after_all events is.0 new is.2 (room_after event old is.0 is.1 fits)

-- whatever events come, the machine ends in a state that the definition allows
pub runs_end_in_states : (capacity : ℕ) (events : List Event) (machine : Machine)
    → Runs events (opening_machine capacity) machine → IsState machine
unfolding Fits
runs_end_in_states capacity events machine is =
    state_of machine (room_after_all events (opening_machine capacity) machine is (omega arith))
    (after_events events (opening_machine capacity) machine is (at_start capacity))

-- whatever events come, what a session notes as its own entries are those of its number
pub mine_is_own : (capacity : ℕ) (events : List Event) (machine : Machine)
    → Runs events (opening_machine capacity) machine → (session : ℕ)
    → entries_of session (machine.knows session).seen ≡ (machine.knows session).mine
mine_is_own capacity events machine is = (runs_end_in_states capacity events machine is).part

-- one event leads from a state that the definition allows to another
pub state_next : (event : Event) (old new : Machine) → Happens event old new → IsState old → IsState new
unfolding Fits
state_next event old new is state =
    state_of new (room_after event old new is state.room)
    (after_event event old new is
    (λ session. record { begins = state.seen session; own = state.mine session; part = state.part session }))
