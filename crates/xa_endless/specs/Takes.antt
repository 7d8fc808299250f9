-- Why a session can't be taken.
use Rattle.std.specs.Prelude.{◌≤◌, ℕ, length}
use Rattle.xa_endless.specs.declared.{store.EndlessStore.EndlessStore, taking.TakeFault.TakeFault}

-- OutOfRange: the store has no session of this number. NoMemory and Taken: it has one, and no more is said
abbrev pub IsRefused : EndlessStore → ℕ → TakeFault → Type 0
IsRefused store number TakeFault.OutOfRange = (1 ≤ number) → (number ≤ length store.places.items) → ⊥
IsRefused store number TakeFault.NoMemory = (1 ≤ number) × (number ≤ length store.places.items)
IsRefused store number TakeFault.Taken = (1 ≤ number) × (number ≤ length store.places.items)
