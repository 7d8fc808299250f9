-- Free statements on some rows, judged apart from the rest of a record.
-- A record is cut in two. One part is all GET, PUT and DEL of the chosen rows, by sessions that have no branch then,
-- with what they returned. The other part is the rest. Nothing in the rest touches the chosen rows.
--     IsFreeRequest, IsOtherRequest      a request may stand in the one part;  in the other
--     IsOnRows, IsOffRows  a request is on a chosen row;  on none of them
--     has_none, free_in    a session has no branch, by its turn;  the sessions that have none
--     is_start, is_ending  a request may start a branch;  leaves its session without one
--     turn_called, turn_returned, turn_unknown     a session's turn after its call;  after its end
--     turn_after, turns_past      a session's turn after an event;  all turns
--     FitsRow, FitsTurn    a statement on a row, an event may stand in this part
use Rattle.std.specs.Prelude.{◌≡◌, ℕ, suc, Bool, true, false, Some, List, [], ◌∷◌, slice_get, slice_set, replicate, ◌≢◌}
use Rattle.std.specs.{Prelude.{Option, None, cond}, Option.{unwrap_or, option_map_or}}
use Rattle.xa_xid.specs.declared.{xid.Xid.Xid, statement.Statement.Statement}
use Rattle.xa_server.specs.State.{Branch, State}
use Rattle.xa_judge.specs.declared.{request.Request.{Request, TheVariants.Statement as Given}, event.Seen.Seen}
use Rattle.xa_judge.specs.declared.{event.Event.{Event, TheVariants.{Call, Return, Lost, Unknown}}, turn.Turn.Turn}
use Rattle.std.specs.FinMap as map

-- a statement on a chosen row, by a session that has no branch
abbrev pub IsFreeRequest : (List ℕ → Bool) → (ℕ → Bool) → ℕ → Request → Type 0
IsFreeRequest named free session (Given (Statement.Get key)) = (free session ≡ true) × (named key ≡ true)
IsFreeRequest named free session (Given (Statement.Put key value)) = (free session ≡ true) × (named key ≡ true)
IsFreeRequest named free session (Given (Statement.Del key)) = (free session ≡ true) × (named key ≡ true)
IsFreeRequest named free session request = ⊥

-- a request that names no chosen row, and is no XA START of a session that has no branch
abbrev pub IsOtherRequest : (List ℕ → Bool) → (ℕ → Bool) → ℕ → Request → Type 0
IsOtherRequest named free session (Given (Statement.Get key)) = named key ≡ false
IsOtherRequest named free session (Given (Statement.Put key value)) = named key ≡ false
IsOtherRequest named free session (Given (Statement.Del key)) = named key ≡ false
IsOtherRequest named free session (Given (Statement.Start xid)) = free session ≡ false
IsOtherRequest named free session request = Unit {0}

-- a statement on a chosen row
abbrev pub IsOnRows : (List ℕ → Bool) → Request → Type 0
IsOnRows named (Given (Statement.Get key)) = named key ≡ true
IsOnRows named (Given (Statement.Put key value)) = named key ≡ true
IsOnRows named (Given (Statement.Del key)) = named key ≡ true
IsOnRows named request = ⊥

-- a request that names no chosen row
abbrev pub IsOffRows : (List ℕ → Bool) → Request → Type 0
IsOffRows named (Given (Statement.Get key)) = named key ≡ false
IsOffRows named (Given (Statement.Put key value)) = named key ≡ false
IsOffRows named (Given (Statement.Del key)) = named key ≡ false
IsOffRows named request = Unit {0}

-- whose event it is
abbrev pub session_of : Event → ℕ
session_of (Call session request) = session
session_of (Return session seen) = session
session_of (Lost session) = session
session_of (Unknown session) = session

-- a session with this turn has no branch
abbrev pub has_none : Turn → Bool
has_none Turn.Nobody = true
has_none Turn.Chosen = true
has_none Turn.Other = true
has_none Turn.Within = false
has_none Turn.Rest = false
has_none Turn.Ending = false

-- whether the session of this number has no branch, by its turn
abbrev pub free_in : List Turn → ℕ → Bool
free_in turns session = option_map_or has_none (slice_get turns session) false

-- the request may start a branch
abbrev pub is_start : Request → Bool
is_start (Given (Statement.Start xid)) = true
is_start request = false

-- once the request is accepted, its session has no branch
abbrev pub is_ending : Request → Bool
is_ending (Given (Statement.Prepare xid)) = true
is_ending (Given (Statement.Commit xid one_phase)) = true
is_ending (Given (Statement.Rollback xid)) = true
is_ending (Given Statement.Disconnect) = true
is_ending request = false

-- a session's turn after a call in the other part. From Nobody it is Rest if the request may start a branch, else
-- Other; from any other turn it is Ending if the request, once accepted, leaves the session without a branch, else
-- Rest
abbrev pub turn_called : Turn → Request → Turn
turn_called Turn.Nobody request = cond (is_start request) Turn.Rest Turn.Other
turn_called turn request = cond (is_ending request) Turn.Ending Turn.Rest

-- a session's turn after its call has returned this: a session that may have a branch has none only after an OK to an
-- ending request
abbrev pub turn_returned : Turn → Seen → Turn
turn_returned Turn.Chosen seen = Turn.Nobody
turn_returned Turn.Other seen = Turn.Nobody
turn_returned Turn.Ending Seen.Ok = Turn.Nobody
turn_returned turn seen = Turn.Within

-- a session's turn after its call is over with an answer that isn't known: one that had no branch still has none, and
-- any other may have one
abbrev pub turn_unknown : Turn → Turn
turn_unknown Turn.Chosen = Turn.Nobody
turn_unknown Turn.Other = Turn.Nobody
turn_unknown turn = Turn.Within

-- a session's turn after its event: true stands for the chosen part. A session whose client is lost has Within
abbrev pub turn_after : Turn → Event → Bool → Turn
turn_after turn (Call session request) true = Turn.Chosen
turn_after turn (Call session request) false = turn_called turn request
turn_after turn (Return session seen) side = turn_returned turn seen
turn_after turn (Lost session) side = Turn.Within
turn_after turn (Unknown session) side = turn_unknown turn

-- the open call belongs to the chosen part
abbrev pub is_chosen : Turn → Bool
is_chosen Turn.Nobody = false
is_chosen Turn.Chosen = true
is_chosen Turn.Other = false
is_chosen Turn.Within = false
is_chosen Turn.Rest = false
is_chosen Turn.Ending = false

-- a statement on this row may stand in this part; true stands for the chosen one. There the row is chosen, and the
-- session has no branch and no open call. In the other part the row isn't chosen, and no chosen call of the session
-- is open
abbrev pub FitsRow : (List ℕ → Bool) → Turn → List ℕ → Bool → Type 0
FitsRow named turn key true = (turn ≡ Turn.Nobody) × (named key ≡ true)
FitsRow named turn key false = (is_chosen turn ≡ false) × (named key ≡ false)

-- the event may stand in this part; true stands for the chosen one. A call fits as its row does (`FitsRow`), and one
-- without a row only in the other part; the end of a call where the call stands; a lost client only in the other part,
-- if no chosen call of it is open
abbrev pub FitsTurn : (List ℕ → Bool) → Turn → Event → Bool → Type 0
FitsTurn named turn (Call session request) true = (turn ≡ Turn.Nobody) × IsOnRows named request
FitsTurn named turn (Call session request) false = (is_chosen turn ≡ false) × IsOffRows named request
FitsTurn named turn (Lost session) true = ⊥
FitsTurn named turn (Lost session) false = is_chosen turn ≡ false
FitsTurn named turn (Return session seen) side = is_chosen turn ≡ side
FitsTurn named turn (Unknown session) side = is_chosen turn ≡ side

-- the turn of a session; Nobody if the list has no place for it
abbrev pub turn_in : List Turn → ℕ → Turn
turn_in turns session = unwrap_or (slice_get turns session) Turn.Nobody

-- the turns after an event
abbrev pub turns_past : List Turn → Bool → Event → List Turn
turns_past turns side event =
    slice_set turns (session_of event) (turn_after (turn_in turns (session_of event)) event side)

-- the turns before all events: no session has an open call or a branch
unfoldable pub first_turns : List Turn
-- all turns before all events
first_turns = replicate 17 Turn.Nobody

-- there is a part for each event, in which it may stand (`FitsTurn`) by the turns after those before it; true stands
-- for the chosen part
abbrev pub IsCut : (List ℕ → Bool) → List Turn → List Bool → List Event → Type 0
IsCut named turns [] [] = Unit {0}
IsCut named turns (side ∷ sides) (event ∷ events) =
    (turn : Turn) × (slice_get turns (session_of event) ≡ Some turn) × FitsTurn named turn event side
    × IsCut named (turns_past turns side event) sides events
IsCut named turns sides events = ⊥

-- the turns after the events
abbrev pub turns_after : List Turn → List Bool → List Event → List Turn
turns_after turns (side ∷ sides) (event ∷ events) = turns_after (turns_past turns side event) sides events
turns_after turns sides events = turns

-- the events of one part, in their order; true stands for the chosen one
abbrev pub picked : Bool → List Bool → List Event → List Event
picked true (true ∷ sides) (event ∷ events) = event ∷ picked true sides events
picked true (false ∷ sides) (event ∷ events) = picked true sides events
picked false (true ∷ sides) (event ∷ events) = picked false sides events
picked false (false ∷ sides) (event ∷ events) = event ∷ picked false sides events
picked wanted sides events = []

-- how many events stand in one part
abbrev pub count_in : Bool → List Bool → ℕ
count_in wanted [] = 0
count_in true (true ∷ sides) = suc (count_in true sides)
count_in true (false ∷ sides) = count_in true sides
count_in false (true ∷ sides) = count_in false sides
count_in false (false ∷ sides) = suc (count_in false sides)

-- the branch writes and locks no chosen row, and its owner is no session that is `free`, which means without a branch
pub record IsApartBranch (named : List ℕ → Bool) (free : ℕ → Bool) (branch : Branch) : Type 0 where
  pub owner : (session : ℕ) → free session ≡ true → branch.owner ≢ Some session
  pub writes : (key : List ℕ) → named key ≡ true → map.get branch.writes key ≡ None
  pub locks : (key : List ℕ) → named key ≡ true → map.get branch.locks key ≡ None

-- if there is a branch, it has nothing of the chosen rows, and no owner that is `free`
abbrev pub IsApartAt : (List ℕ → Bool) → (ℕ → Bool) → Option Branch → Type 0
IsApartAt named free None = Unit {0}
IsApartAt named free (Some branch) = IsApartBranch named free branch

-- every branch has nothing of the chosen rows, and no owner that is `free`
abbrev pub IsApart : (List ℕ → Bool) → (ℕ → Bool) → State → Type 0
IsApart named free state = (xid : Xid) → IsApartAt named free (map.get state.branches xid)

-- there is no branch
abbrev pub HasNoBranch : State → Type 0
HasNoBranch state = (xid : Xid) → map.get state.branches xid ≡ None
