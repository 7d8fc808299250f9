-- Each state of the machine, the target, is reached: its entries are added in their order, and after each add those
-- sessions look that have seen the entry in the target.
use Rattle.std.proofs.Common.{◌≡◌, ◌≢◌, ℕ, zero, suc, ◌<◌, ◌≤◌, Bool, true, false, cond, nat_eq, List, [], ◌∷◌, ◌++◌}
use Rattle.std.proofs.Common.{length, take, drop, refl, ap, sym, ◌∙◌, subst, Some, arith, eq-eqb, ne_eqb}
use Rattle.std.{proofs.lemmas.List.{take_all, length-take, length-take-le, take-append-le}, specs.Prelude.slice_get}
use mathlib.Core.Logic.{dite}
use Rattle.xa_words.specs.Entry.{Entry}
use Rattle.decision_log.specs.{History.{Begins, entries_of}, Known.AllOf, Reached.{EventsOf, IsReached}}
use Rattle.decision_log.specs.Machine.{Machine, Event, Look, Add, Looks, Appends, Runs, opening_machine, IsState}
use Rattle.decision_log.proofs.Histories.{behind, length_begins, own_last, own_other, take_next, entry_at, entry_is}
use Rattle.decision_log.proofs.Histories.{later_other}
use native.Mathlib.Decide.{ℕ_discrete, dec_le}

-- events one after another

-- two lists of events, one after another, are one
runs_append : (xs ys : List Event) (a b c : Machine) → Runs xs a b → Runs ys b c → Runs (xs ++ ys) a c
runs_append [] ys a b c p q = subst (λ m. Runs ys m c) p q
runs_append (x ∷ xs) ys a b c p q = (p.0, p.1, runs_append xs ys p.0 b c p.2 q)

-- two lists of events of sessions up to a number, one after another, are such a list
events_append : (sessions : ℕ) (xs ys : List Event) → EventsOf sessions xs → EventsOf sessions ys
    → EventsOf sessions (xs ++ ys)
events_append sessions [] ys p q = q
events_append sessions (x ∷ xs) ys p q = (p.0, p.1, events_append sessions xs ys p.2 q)

-- the machine after a look, and after an add

-- the machine after a session has looked
abbrev after_look : ℕ → Machine → Machine
after_look session old = record {
  history = old.history;
  capacity = old.capacity;
  knows = λ n. cond (nat_eq n session) (record { seen = old.history; mine = (old.knows session).mine }) (old.knows n);
}

-- a look can always happen
look_happens : (session : ℕ) (old : Machine) → Looks session old (after_look session old)
look_happens session old = record {
  history = refl;
  capacity = refl;
  seen = rw (eq-eqb session session refl) refl;
  mine = rw (eq-eqb session session refl) refl;
  others = λ other apart. rw (ne_eqb other session apart) refl;
}

-- the machine after a session has added an entry
abbrev after_add : ℕ → Entry → Machine → Machine
after_add session entry old = record {
  history = old.history ++ entry ∷ [];
  capacity = old.capacity;
  knows = λ n. cond (nat_eq n session)
      (record { seen = (old.knows session).seen ++ entry ∷ []; mine = (old.knows session).mine ++ entry ∷ [] })
      (old.knows n);
}

-- an entry can be added by a session that has seen everything, if there is room
add_happens : (session : ℕ) (entry : Entry) (old : Machine) → entry.session ≡ session
    → (old.knows session).seen ≡ old.history
    → length old.history < old.capacity
    → Appends session entry old (after_add session entry old)
add_happens session entry old own whole room = record {
  own = own;
  whole = whole;
  room = room;
  history = refl;
  capacity = refl;
  seen = rw (eq-eqb session session refl) refl;
  mine = rw (eq-eqb session session refl) refl;
  others = λ other apart. rw (ne_eqb other session apart) refl;
}

-- of sessions 1 to a number those look that are due

-- of the sessions up to `last`, those that are due have looked, and nothing else has changed
record LookedTo (due : ℕ → Bool) (last : ℕ) (old new : Machine) : Type 0 where
  pub history : new.history ≡ old.history
  pub capacity : new.capacity ≡ old.capacity
  pub mine : (session : ℕ) → (new.knows session).mine ≡ (old.knows session).mine
  pub seen : (session : ℕ) → 1 ≤ session → session ≤ last
      → (new.knows session).seen ≡ cond (due session) old.history (old.knows session).seen
  pub above : (session : ℕ) → last < session → (new.knows session).seen ≡ (old.knows session).seen

-- events of sessions 1 to a number by which those that are due look, up to `last`, and nothing else changes
record Round (sessions : ℕ) (due : ℕ → Bool) (last : ℕ) (old : Machine) : Type 0 where
  pub events : List Event
  pub own : EventsOf sessions events
  pub new : Machine
  pub runs : Runs events old new
  pub looked : LookedTo due last old new

-- if a round of looks goes up to `last`, there is one up to the session after it, which looks if it is due
one_more : (sessions : ℕ) (due : ℕ → Bool) (last : ℕ) (old : Machine) → suc last ≤ sessions
    → Round sessions due last old → (now : Bool) → due (suc last) ≡ now
    → Round sessions due (suc last) old
one_more sessions due last old within r false is = record {
  events = r.events;
  own = r.own;
  new = r.new;
  runs = r.runs;
  looked = record {
    history = r.looked.history;
    capacity = r.looked.capacity;
    mine = r.looked.mine;
    seen =
        λ session low high.
        dite (ℕ_discrete session (suc last))
        (λ e. subst (λ n. (r.new.knows n).seen ≡ cond (due n) old.history (old.knows n).seen) (sym e)
        (rw is (r.looked.above (suc last) (omega arith))))
        (λ n. r.looked.seen session low (omega arith));
    above = λ session high. r.looked.above session (omega arith);
  };
}
one_more sessions due last old within r true is =
    let look = look_happens (suc last) r.new in record {
      events = r.events ++ Look (suc last) ∷ [];
      own = events_append sessions r.events (Look (suc last) ∷ []) r.own (omega arith, within, tt);
      new = after_look (suc last) r.new;
      runs = runs_append r.events (Look (suc last) ∷ []) old r.new (after_look (suc last) r.new) r.runs
          (after_look (suc last) r.new, look, refl);
      looked = record {
        history = r.looked.history;
        capacity = r.looked.capacity;
        mine =
            λ session.
            dite (ℕ_discrete session (suc last))
            (λ e. subst (λ n. ((after_look (suc last) r.new).knows n).mine ≡ (old.knows n).mine) (sym e)
            (look.mine ∙ r.looked.mine (suc last)))
            (λ n. ap (λ known. known.mine) (look.others session n) ∙ r.looked.mine session);
        seen =
            λ session low high.
            dite (ℕ_discrete session (suc last))
            (λ e. subst (λ n. ((after_look (suc last) r.new).knows n).seen
            ≡ cond (due n) old.history (old.knows n).seen) (sym e)
            (look.seen ∙ r.looked.history ∙ rw is refl))
            (λ n. ap (λ known. known.seen) (look.others session n) ∙ r.looked.seen session low (omega arith));
        above = λ session high. ap (λ known. known.seen) (look.others session (λ e. omega arith))
            ∙ r.looked.above session (omega arith);
      };
    }

-- each machine can have a round of looks of those sessions, up to any number, that are due
look_round : (sessions : ℕ) (due : ℕ → Bool) (old : Machine) (last : ℕ) → last ≤ sessions → Round sessions due last old
look_round sessions due old zero within = record {
  events = [];
  own = tt;
  new = old;
  runs = refl;
  looked = record {
    history = refl;
    capacity = refl;
    mine = λ session. refl;
    seen = λ session low high. absurd
        (omega arith);
    above = λ session high. refl;
  };
}
look_round sessions due old (suc last) within =
    one_more sessions due last old within (look_round sessions due old last (omega arith)) (due (suc last)) refl

-- the first n entries of a prefix are those of the history, if the prefix has so many
take_begins : (n : ℕ) (xs ys : List Entry) → Begins xs ys → n ≤ length xs → take n xs ≡ take n ys
take_begins n xs ys begins short =
    sym (take-append-le n xs (drop (length xs) ys) short) ∙ ap (take n) (behind xs ys begins)

module _ (sessions : ℕ) (target : Machine) (is : IsState target) (all : AllOf sessions target.history) where
  -- the target's first `count` entries are added, and each session has seen those of them that it has seen in the
  -- target
  record At (count : ℕ) (machine : Machine) : Type 0 where
    pub history : machine.history ≡ take count target.history
    pub capacity : machine.capacity ≡ target.capacity
    pub seen : (session : ℕ) → 1 ≤ session → session ≤ sessions
        → (machine.knows session).seen ≡ take count (target.knows session).seen
    pub mine : (session : ℕ) → 1 ≤ session → session ≤ sessions
        → (machine.knows session).mine ≡ entries_of session (take count target.history)

  -- events of sessions 1 to a number that lead from the start to a machine with the first `count` entries (`At`)
  record Reached (count : ℕ) : Type 0 where
    pub events : List Event
    pub own : EventsOf sessions events
    pub machine : Machine
    pub runs : Runs events (opening_machine target.capacity) machine
    pub at : At count machine

  -- in the target, the session of each entry has seen that entry
  has_seen : (count : ℕ) (entry : Entry) → slice_get target.history count ≡ Some entry
      → count < length (target.knows entry.session).seen
  has_seen count entry here =
      let known = target.knows entry.session in
      dite (dec_le (length known.seen) count)
      (λ long. absurd (later_other entry.session known.seen target.history known.mine count entry
      (is.seen entry.session) (is.mine entry.session)
      (is.part entry.session) long here refl))
      (λ short. omega arith)

  -- whether a session looks after the add of the entry at `count`: if it has seen that entry in the target
  abbrev due_at : ℕ → ℕ → Bool
  due_at count session = nat_eq (length (take (suc count) (target.knows session).seen)) (suc count)

  -- if a session has seen more than `count` entries in the target, the first suc count of them are suc count
  full : (count session : ℕ) → count < length (target.knows session).seen
      → length (take (suc count) (target.knows session).seen) ≡ suc count
  full count session more = length-take-le (suc count) (target.knows session).seen more

  -- after the looks that are due, a session has seen the first suc count of the entries that it has seen in the
  -- target; if these are no more than `count`, it must have seen them before
  seen_where_due : (count session : ℕ) (old : Machine) → old.history ≡ take (suc count) target.history
      → (known : List Entry)
      → (length (target.knows session).seen ≤ count → known ≡ take count (target.knows session).seen)
      → cond (due_at count session) old.history known ≡ take (suc count) (target.knows session).seen
  seen_where_due count session old history known stays =
      let seen = (target.knows session).seen in
      dite (dec_le (length seen) count)
      (λ short.
      let fewer : length (take (suc count) seen) ≢ suc count =
      λ e. omega (arith, length-take (suc count) seen, short, e) in
      rw (ne_eqb (length (take (suc count) seen)) (suc count) fewer)
      (stays short ∙ take_all count seen short ∙ sym (take_all (suc count) seen (omega arith))))
      (λ longer.
      let more : count < length seen = omega arith in
      rw (eq-eqb (length (take (suc count) seen)) (suc count) (full count session more))
      (history ∙ sym (take_begins (suc count) seen target.history (is.seen session) more)))

  -- one entry more is reached: it is added, and those sessions look that have seen it in the target
  next : (count : ℕ) (entry : Entry) → slice_get target.history count ≡ Some entry → 1 ≤ entry.session
      → entry.session ≤ sessions
      → suc count ≤ length target.history → Reached count → Reached (suc count)
  next count entry here low high within r =
      let who = entry.session in
      let more = has_seen count entry here in
      let whole : (r.machine.knows who).seen ≡ r.machine.history =
      r.at.seen who low high ∙ take_begins count (target.knows who).seen target.history (is.seen who)
      (omega (arith, more)) ∙ sym r.at.history in
      let size : length r.machine.history ≡ count = ap length r.at.history
      ∙ length-take-le count target.history (omega (arith, within)) in
      let add = add_happens who entry r.machine refl whole (omega (arith, size, r.at.capacity, is.room, within)) in
      let added = after_add who entry r.machine in
      let history : added.history ≡ take (suc count) target.history =
      ap (λ list. list ++ entry ∷ []) r.at.history ∙ sym (take_next target.history count entry here) in
      let round = look_round sessions (due_at count) added sessions (omega arith) in record {
        events = r.events ++ Add who entry ∷ round.events;
        own = events_append sessions r.events (Add who entry ∷ round.events) r.own (low, high, round.own);
        machine = round.new;
        runs = runs_append r.events (Add who entry ∷ round.events)
            (opening_machine target.capacity) r.machine round.new r.runs (added, add, round.runs);
        at = record {
          history = round.looked.history ∙ history;
          capacity = round.looked.capacity ∙ r.at.capacity;
          seen =
              λ session first last.
              round.looked.seen session first last
              ∙ seen_where_due count session added history (added.knows session).seen
              (λ short. ap (λ known. known.seen) (add.others session
              (λ e. omega (arith, more, short, ap (λ n. length (target.knows n).seen) e)))
              ∙ r.at.seen session first last);
          mine =
              λ session first last.
              round.looked.mine session
              ∙ dite (ℕ_discrete session who)
              (λ e. subst (λ n. (added.knows n).mine ≡ entries_of n (take (suc count) target.history)) (sym e)
              (add.mine ∙ ap (λ list. list ++ entry ∷ []) (r.at.mine who low high)
              ∙ sym (own_last who (take count target.history) entry refl)
              ∙ ap (entries_of who) (sym (take_next target.history count entry here))))
              (λ n. ap (λ known. known.mine) (add.others session n) ∙ r.at.mine session first last
              ∙ sym (own_other session (take count target.history) entry (λ e. n (sym e)))
              ∙ ap (entries_of session) (sym (take_next target.history count entry here)));
        };
      }

  -- an entry of the target's history is of a session from 1 to a number
  of_log : (count : ℕ) (entry : Entry) → count < length target.history → slice_get target.history count ≡ Some entry
      → (1 ≤ entry.session) × (entry.session ≤ sessions)
  of_log count entry within here =
      subst (λ e. (1 ≤ e.session) × (e.session ≤ sessions)) (entry_is target.history count entry here)
      (all count entry within)

  -- for each count up to the history's length, events lead to a machine with so many of the target's entries
  reach : (count : ℕ) → count ≤ length target.history → Reached count
  reach zero within = record {
    events = [];
    own = tt;
    machine = opening_machine target.capacity;
    runs = refl;
    at = record {
      history = refl;
      capacity = refl;
      seen = λ session first last. refl;
      mine = λ session first last.
          refl;
    };
  }
  reach (suc count) within =
      let e = entry_at target.history count (omega (arith, within)) in
      let of = of_log count e.0 (omega (arith, within)) e.1 in
      next count e.0 e.1 of.0 of.1 within (reach count (omega (arith, within)))

  -- the target is reached by events of these sessions, as `IsReached` says
  pub reached : IsReached sessions target
  reached =
      let r = reach (length target.history) (omega arith) in
      let all_of : take (length target.history) target.history ≡ target.history =
      take_all (length target.history) target.history (omega arith) in record {
        events = r.events;
        own = r.own;
        reached = r.machine;
        runs = r.runs;
        history = r.at.history ∙ all_of;
        capacity = r.at.capacity;
        seen =
            λ session first last.
            r.at.seen session first last
            ∙ take_all (length target.history) (target.knows session).seen
            (length_begins (target.knows session).seen target.history (is.seen session));
        mine = λ session first last. r.at.mine session first last ∙ ap (entries_of session) all_of ∙ is.mine session;
      }
