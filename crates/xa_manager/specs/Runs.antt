-- A transaction manager over unbounded stores, and calls that it carries out one after another.
use Rattle.std.specs.Prelude.{◌≡◌, ℕ, List, [], ◌∷◌, ◌++◌}
use Rattle.xa_coordinator.specs.declared.{fused.Fused.Fused, store.LastingStore.LastingStore}
use Rattle.xa_coordinator.specs.Lasting.{own_view, other_alone}
use Rattle.xa_manager.specs.declared.{call.Call.Call, response.Response.Response}
use Rattle.xa_manager.specs.{Beside.{BeginsBeside, PerformsBeside}, Carried.WholeManager}

-- a manager over unbounded stores, which hold the other clients' sessions; no call gives a statement to the manager's
-- own list of other clients (`CarriesBeside`)
abbrev pub Managing : Type 0
Managing = WholeManager (Fused LastingStore) LastingStore

-- the call was refused as the table (`refusal_of`) says, or was carried out, with this response
abbrev pub IsAnswered : Managing → Call → Response → Managing → Type 0
IsAnswered old call response new = PerformsBeside own_view other_alone own_view old call response new

-- calls got these responses, one after another
pub data CarriesOut (old : Managing) : List Call → List Response → Managing → Type 0 where
  none_yet : CarriesOut old [] [] old
  one_more : (calls : List Call) (responses : List Response) (mid : Managing) → CarriesOut old calls responses mid
      → (call : Call) (response : Response) (new : Managing) → IsAnswered mid call response new
      → CarriesOut old (calls ++ call ∷ []) (responses ++ response ∷ []) new

-- over so many stores that hold nothing, nothing has begun: a manager as `lasting_manager` makes it
pub record IsFresh (stores : ℕ) (manager : Managing) : Type 0 where
  pub count : manager.stores ≡ stores
  pub begins : BeginsBeside own_view other_alone manager

-- calls got these responses, one after another, from a manager that began fresh over so many stores
pub record IsRun (stores : ℕ) (calls : List Call) (responses : List Response) (last : Managing) : Type 0 where
  pub first : Managing
  pub fresh : IsFresh stores first
  pub carried : CarriesOut first calls responses last
