-- The passes of stores.
use Rattle.std.specs.{Prelude.{◌≡◌, List, All}, List.AllZip}
use Rattle.decision_log.specs.Known.{newcomer}
use Rattle.xa_server.specs.State.{no_state}
use Rattle.xa_store.specs.{Passes.{Pass, identity_of, log_of, known_of}, declared.store.Store.Store}

-- each pass is of the store in its place
abbrev pub AreOf : List Store → List Pass → Type 0
AreOf stores passes = AllZip (λ store pass. log_of pass ≡ identity_of store.log) stores passes

-- no store holds anything; the first passes are of session 1 and the second ones of session 2, and none of them has
-- seen anything
pub record AreNew (stores : List Store) (firsts seconds : List Pass) : Type 0 where
  pub empty : All (λ store. store.base ≡ no_state) stores
  pub first : All (λ pass. known_of pass ≡ newcomer 1) firsts
  pub second : All (λ pass. known_of pass ≡ newcomer 2) seconds
