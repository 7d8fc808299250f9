-- Replaying a history: entry by entry, and in longer histories.
use Rattle.std.proofs.Common.{◌≡◌, ℕ, zero, suc, ◌<◌, ◌≤◌, ◌+◌, List, [], ◌∷◌, ◌++◌, length, take, refl, ap, sym, ◌∙◌}
use Rattle.std.{proofs.{Common.{Some, arith, add-one}, lemmas.List.{take_all, take-append-le}}, specs.Prelude.slice_get}
use Rattle.xa_words.specs.Entry.{Entry}
use Rattle.xa_server.specs.{State.State, Step.after}
use Rattle.decision_log.{specs.History.Begins, proofs.Histories.{length_begins, behind}}
use Rattle.xa_session.specs.{Replay.{state_after, state_at, Stands}, declared.replica.Replica.Replica}

-- a prefix of one element more is the prefix with the next element behind it
pub take-next : (xs : List Entry) (place : ℕ) (entry : Entry) → slice_get xs place ≡ Some entry
    → take (suc place) xs ≡ take place xs ++ entry ∷ []
take-next [] place entry is = absurd (cc)
take-next (x ∷ xs) zero entry is = let same : x ≡ entry = cc in ap (λ e. e ∷ []) same
take-next (x ∷ xs) (suc place) entry is = ap (λ rest. x ∷ rest) (take-next xs place entry is)

-- a place that has an entry is within the history
pub place_below : (xs : List Entry) (place : ℕ) (entry : Entry) → slice_get xs place ≡ Some entry → place < length xs
place_below [] place entry is = absurd (cc)
place_below (x ∷ xs) zero entry is = omega arith
place_below (x ∷ xs) (suc place) entry is = let below = place_below xs place entry is in omega arith

-- the state after no entry is the base state
pub state_after-nil : (base : State) → state_after base [] ≡ base
unfolding state_after
state_after-nil base = refl

-- the state after a history and one entry more is what that entry's statement leaves of the state after the history
pub state_after-last : (base : State) (xs : List Entry) (entry : Entry)
    → state_after base (xs ++ entry ∷ []) ≡ after (state_after base xs) entry.session entry.statement
unfolding state_after
state_after-last base [] entry = refl
state_after-last base (x ∷ xs) entry = state_after-last (after base x.session x.statement) xs entry

-- the state at the next place is the one after the entry here
pub state_at-next : (base : State) (seen : List Entry) (place : ℕ) (entry : Entry) → slice_get seen place ≡ Some entry
    → state_at base seen (place + 1) ≡ after (state_at base seen place) entry.session entry.statement
state_at-next base seen place entry is =
    ap (state_at base seen) (add-one place) ∙ ap (state_after base) (take-next seen place entry is)
    ∙ state_after-last base (take place seen) entry

-- a longer history has the same states where the shorter one reaches
pub state_at-begins : (base : State) (seen longer : List Entry) (place : ℕ) → Begins seen longer → place ≤ length seen
    → state_at base longer place ≡ state_at base seen place
state_at-begins base seen longer place begins within =
    ap (state_after base)
    (ap (take place) (sym (behind seen longer begins)) ∙ take-append-le place seen _ within)

-- the state at the end of a history is the state after all of it
pub state_at-whole : (base : State) (seen : List Entry) → state_at base seen (length seen) ≡ state_after base seen
state_at-whole base seen = ap (state_after base) (take_all (length seen) seen (omega arith))

-- a replica that begins with the base stands for the empty prefix
pub stands_first : (base : State) (seen : List Entry) (replica : Replica) → replica.server ≡ base → replica.replayed ≡ 0
    → Stands base seen replica
stands_first base seen replica server none = record {
  within = omega arith;
  state = server ∙ sym (state_after-nil base) ∙ ap (state_at base seen) (sym none);
}

-- a replica that replays one entry more stands for the prefix that is one longer
pub stands_next : (base : State) (seen : List Entry) (old new : Replica) (entry : Entry) → Stands base seen old
    → slice_get seen old.replayed ≡ Some entry
    → new.server ≡ after old.server entry.session entry.statement → new.replayed ≡ old.replayed + 1
    → Stands base seen new
stands_next base seen old new entry stands is server next =
    let below = place_below seen old.replayed entry is in
    record {
      within = omega arith;
      state =
          server ∙ ap (λ s. after s entry.session entry.statement) stands.state
          ∙ sym (state_at-next base seen old.replayed entry is)
          ∙ ap (state_at base seen) (sym next);
    }

-- a replica that stands for a prefix of a history stands for it in a longer history
pub stands_longer : (base : State) (seen longer : List Entry) (replica : Replica) → Begins seen longer
    → Stands base seen replica → Stands base longer replica
stands_longer base seen longer replica begins stands = record {
  within = omega (arith, length_begins seen longer begins, stands.within);
  state = stands.state ∙ sym (state_at-begins base seen longer replica.replayed begins stands.within);
}
