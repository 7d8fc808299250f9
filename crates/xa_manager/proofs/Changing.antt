-- What changes committed values.
use Rattle.std.{proofs.Common.{◌≡◌, ◌⊎◌, ℕ, ap, ◌∙◌, inl, inr, Some, arith}, specs.Prelude.slice_get}
use Rattle.xa_words.specs.Entry.{Entry}
use Rattle.xa_xid.specs.declared.{xid.Xid.Xid, statement.Statement.Statement}
use Rattle.xa_server.specs.{State.{Branch, State, association_of}, Step.{after, effect, with_changed}}
use Rattle.xa_server.{specs.declared.association.Association.Association, proofs.Changes.outcome}
use Rattle.xa_session.proofs.Replaying.{state_at-next}
use Rattle.xa_coordinator.specs.{Lasting.history_of, declared.store.LastingStore.LastingStore}
use Rattle.xa_manager.specs.Atomic.{ChangesRows, KeepsRowsOr, state_before}

-- changing a branch changes no row
changed_rows : (state : State) (xid : Xid) (change : Branch → Branch)
    → (with_changed state xid change).rows ≡ state.rows
changed_rows state xid change = grind (arith)

-- an accepted statement changes committed values only if it is of a kind that does
effect_rows : (state : State) (session : ℕ) (association : Association) (statement : Statement)
    → ((effect state session association statement).rows ≡ state.rows) ⊎ ChangesRows association statement
unfolding effect
effect_rows state session association statement = grind (arith, changed_rows)

-- a statement changes committed values only if it is of a kind that does; a refused one changes nothing
after_rows : (state : State) (session : ℕ) (statement : Statement)
    → ((after state session statement).rows ≡ state.rows) ⊎ ChangesRows (association_of state session) statement
after_rows state session statement = elim (outcome state session statement) [
  | inl refused ↦ inl (ap (λ (s : State). s.rows) refused.1)
  | inr accepted ↦ elim (effect_rows state session (association_of state session) statement) [
    | inl same ↦ inl (ap (λ (s : State). s.rows) accepted.1 ∙ same)
    | inr changes ↦ inr changes
  ]
]

-- at each place of a store's history the committed values stay, or the entry there is of a kind that changes them
pub rows_keep : (kept : LastingStore) (place : ℕ) (entry : Entry)
    → slice_get (history_of kept) place ≡ Some entry
    → KeepsRowsOr kept place entry
rows_keep kept place entry there = elim (after_rows (state_before kept place) entry.session entry.statement) [
  | inl same ↦
      inl (ap (λ (s : State). s.rows) (state_at-next kept.first.value
      (history_of kept) place entry there) ∙ same)
  | inr changes ↦ inr changes
]
