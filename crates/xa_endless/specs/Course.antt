-- What a coordinator adds in one store, in any number of its calls.
use Rattle.std.specs.{Prelude.{◌≡◌, ℕ, List, [], ◌∷◌, ◌++◌, map, All}, List.AllZip}
use Rattle.xa_xid.specs.declared.statement.Statement.{Statement}
use Rattle.decision_log.specs.History.{Begins}
use Rattle.xa_session.specs.{Answer.entry_of, View.SessionView}
use Rattle.xa_coordinator.specs.{Agreement.{AgreesWith, Agrees}, declared.decisions.Decision.Decision}

-- calls of the coordinator of this name, one after another, lead from the old session of the store of this number to
-- the new one; the list has the decisions as they stood at each call
pub data Course (name : List ℕ) (store : ℕ) : List (List Decision) → SessionView → SessionView → Type 0 where
  stays : (session : SessionView) → Course name store [] session session
  calls : (decisions : List Decision) (later : List (List Decision)) (old mid new : SessionView)
      → Agrees decisions name store old mid
      → Course name store later mid new → Course name store (decisions ∷ later) old new

-- what several calls added, one after another
abbrev pub joined : List (List Statement) → List Statement
joined [] = []
joined (list ∷ lists) = list ++ joined lists

-- the session has the same log and number, its history begins in the same state, and it sees no less; exactly these
-- statements of the session were added, those of each call as its decisions allow
pub record AgreesThroughout (name : List ℕ) (store : ℕ) (decisions : List (List Decision))
    (old new : SessionView) : Type 0 where
  pub identity : new.identity ≡ old.identity
  pub base : new.base ≡ old.base
  pub number : new.known.number ≡ old.known.number
  pub seen : Begins old.known.seen new.known.seen
  pub statements : List (List Statement)
  pub mine : new.known.mine ≡ old.known.mine ++ map (entry_of old.known.number) (joined statements)
  pub each : AllZip (λ stood added. All (AgreesWith stood name store) added) decisions statements
