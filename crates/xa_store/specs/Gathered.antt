-- What sessions have seen after they have met.
use Rattle.std.specs.Prelude.{◌≡◌, ◌≤◌, List, [], ◌∷◌}
use Rattle.xa_words.specs.Entry.{Entry}
use Rattle.decision_log.specs.{declared.known.Known.Known, Known.newcomer, History.{Begins, entries_of}}

-- the history begins with all that the session has seen, and its entries of the session's number are just those that
-- the session knows as its own
pub record IsTakenIn (history : List Entry) (known : Known) : Type 0 where
  pub seen : Begins known.seen history
  pub mine : entries_of known.number history ≡ known.mine

-- the session has added nothing, and what it sees begins with what it had seen
pub record AddsNothing (old new : Known) : Type 0 where
  pub number : new.number ≡ old.number
  pub seen : Begins old.seen new.seen
  pub mine : new.mine ≡ old.mine
  pub looks : old.looks ≤ new.looks
  pub tries : new.tries ≡ old.tries

-- what the last session of the list knows; of an empty list, what a session of number 0 knows that has seen nothing
abbrev pub last_known : List Known → Known
last_known [] = newcomer 0
last_known (known ∷ []) = known
last_known (known ∷ other ∷ others) = last_known (other ∷ others)
