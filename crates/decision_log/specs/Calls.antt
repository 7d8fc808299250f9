-- How the calls of a log change what a pass knows.
--     IsAdded, IsOvertaken, IsBusy      the results of an append
--     MeetsFirst, MeetsSecond     a meeting of two passes
use Rattle.std.specs.Prelude.{◌≡◌, ◌<◌, ◌≤◌, ◌+◌, ℕ, Bool, IsTrue, [], ◌∷◌, ◌++◌, length, Result, Ok, Err}
use Rattle.xa_words.specs.Entry.{Entry}
use Rattle.decision_log.specs.{declared.{known.Known.Known, fault.AddFault.AddFault}, History.{Begins, entries_of}}

-- what was seen begins what is seen now, and one more look is counted, in `looks` and `since`; the rest stays
pub record Looked (old new : Known) : Type 0 where
  pub number : new.number ≡ old.number
  pub seen : Begins old.seen new.seen
  pub mine : new.mine ≡ old.mine
  pub looks : new.looks ≡ old.looks + 1
  pub tries : new.tries ≡ old.tries
  pub since : new.since ≡ old.since + 1

-- the entry comes right after all that was seen, and after the pass's own entries; one more try is counted
pub record IsAdded (entry : Entry) (old new : Known) : Type 0 where
  pub number : new.number ≡ old.number
  pub seen : new.seen ≡ old.seen ++ entry ∷ []
  pub mine : new.mine ≡ old.mine ++ entry ∷ []
  pub looks : old.looks ≤ new.looks
  pub tries : new.tries ≡ old.tries + 1

-- others were faster: more is seen, `count` entries now, nothing of the pass was appended, and one more try is counted
pub record IsOvertaken (count : ℕ) (old new : Known) : Type 0 where
  pub number : new.number ≡ old.number
  pub seen : Begins old.seen new.seen
  pub longer : length old.seen < length new.seen
  pub front : length new.seen ≡ count
  pub mine : new.mine ≡ old.mine
  pub looks : old.looks ≤ new.looks
  pub tries : new.tries ≡ old.tries + 1

-- another pass has the turn: the lists are unchanged, one more try is counted, and no look: only a pass that gets the
-- turn looks
pub record IsBusy (old new : Known) : Type 0 where
  pub number : new.number ≡ old.number
  pub seen : new.seen ≡ old.seen
  pub mine : new.mine ≡ old.mine
  pub looks : new.looks ≡ old.looks
  pub tries : new.tries ≡ old.tries + 1

-- an append in a log of a capacity, with a turn or without: by its result `IsAdded` or `IsOvertaken`; Full only if the
-- pass has seen as many entries as the capacity, and then nothing changes; Busy only in a log with a turn (`IsBusy`)
abbrev pub Adds : Bool → ℕ → Entry → Result (Unit {0}) AddFault → Known → Known → Type 0
Adds turns capacity entry (Ok _) old new = IsAdded entry old new
Adds turns capacity entry (Err (AddFault.Overtaken front)) old new = IsOvertaken front old new
Adds turns capacity entry (Err AddFault.Full) old new = (length old.seen ≡ capacity) × (new ≡ old)
Adds turns capacity entry (Err AddFault.Busy) old new = IsTrue turns × IsBusy old new

-- the first of two that meet: it stays as it was, except that `looks` may rise; of `since` nothing is said
pub record MeetsFirst (old new : Known) : Type 0 where
  pub number : new.number ≡ old.number
  pub seen : new.seen ≡ old.seen
  pub mine : new.mine ≡ old.mine
  pub looks : old.looks ≤ new.looks
  pub tries : new.tries ≡ old.tries

-- the second of two that meet, where `other` is the first: it has seen all that the first has, and the entries of the
-- first's number there are the first's own; it has seen more than before only if the first had seen more than it
pub record MeetsSecond (other old new : Known) : Type 0 where
  pub number : new.number ≡ old.number
  pub seen : Begins old.seen new.seen
  pub whole : Begins other.seen new.seen
  pub of_other : entries_of other.number new.seen ≡ other.mine
  pub stays : length other.seen ≤ length old.seen → new.seen ≡ old.seen
  pub mine : new.mine ≡ old.mine
  pub looks : old.looks ≤ new.looks
  pub tries : new.tries ≡ old.tries
