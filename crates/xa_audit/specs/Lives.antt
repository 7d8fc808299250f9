-- The lives of a branch, from an accepted XA START to their ends.
use Rattle.std.specs.Prelude.{Bool, true, false, Option, Some, None, List, [], ◌∷◌, ◌++◌}
use Rattle.std.specs.Option.{option_map, unwrap_or}
use Rattle.xa_audit.specs.declared.{deed.Deed.Deed, ends.End.End, lives.{Life.Life, Lives.Lives}}

-- no life is over, and none goes on
abbrev pub no_lives : Lives
no_lives = record { over = []; going = None }

-- a life that has just begun
abbrev pub new_life : Life
new_life = record { wrote = false; prepared = false }

-- how a life ends that is rolled back, by whether it wrote: RolledBack, since its writes are dropped, or Empty
abbrev pub dropped_by : Bool → End
dropped_by true = End.RolledBack
dropped_by false = End.Empty

-- how a life ends that is rolled back, by whether it wrote; without a life nothing was there to drop
abbrev pub dropped : Option Life → End
dropped None = End.Empty
dropped (Some life) = dropped_by life.wrote

-- the lives with this end behind the ends of those that are over, and none that goes on
abbrev pub over_by : End → Lives → Lives
over_by end lives = record { over = lives.over ++ end ∷ []; going = None }

-- the life once it has written
abbrev pub written_life : Life → Life
written_life life = record life { wrote = true }

-- a life after it was prepared
abbrev pub prepared_life : Life → Life
prepared_life life = record life { prepared = true }

-- the lives after one more deed
abbrev pub noted : Lives → Deed → Lives
noted lives Deed.Starts = record lives { going = Some new_life }
noted lives Deed.Writes = record lives { going = option_map written_life lives.going }
noted lives Deed.Prepares = record lives { going = option_map prepared_life lives.going }
noted lives Deed.Commits = over_by End.Committed lives
noted lives Deed.RollsBack = over_by (dropped lives.going) lives

-- the lives of a branch after these deeds; None if it had none and there is no deed
unfoldable pub lives_after : Option Lives → List Deed → Option Lives
-- the lives after these deeds; none, if there is no deed
lives_after lives [] = lives
lives_after lives (deed ∷ deeds) = lives_after (Some (noted (unwrap_or lives no_lives) deed)) deeds

-- how a life is left at the history's end, by whether it was prepared
abbrev pub left_by : Bool → End
left_by true = End.InDoubt
left_by false = End.Open

-- the end of the life that goes on at the end of the history, if one does
abbrev pub left_going : Option Life → List End
left_going None = []
left_going (Some life) = left_by life.prepared ∷ []

-- how each of the lives ends, in order
abbrev pub ends_in : Lives → List End
ends_in lives = lives.over ++ left_going lives.going
