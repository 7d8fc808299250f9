-- How a state is shown: the lines of docs/COMMANDS.md#show, in its order. Each begins with two blanks, so that what
-- answers a script can be cut out.
use Rattle.std.specs.{Prelude.{ℕ, Option, Some, None, List, [], ◌++◌, codes, decimal}, List.flat_map}
use Rattle.xa_xid.specs.{Xid.Text, XidText.{part_text, xid_text}}
use Rattle.xa_server.specs.declared.{branch.Phase.Phase, hold.Hold.{Hold, TheVariants.{Shared, Put, Delete}}}
use Rattle.xa_server.specs.declared.{hold.HeldRow.HeldRow, overview.BranchEntry.BranchEntry}
use Rattle.xa_server.specs.{Overview.{branches_of, rows_of}, State.{State, committed_value}}

-- the words for a branch's phase
abbrev pub phase_text : Phase → List ℕ
phase_text Phase.Active = codes " ACTIVE"
phase_text Phase.Idle = codes " IDLE"
phase_text Phase.Prepared = codes " PREPARED"

-- the words for a branch's owner; none for a PREPARED branch, which has no owner
abbrev pub owner_text : Option ℕ → List ℕ
owner_text None = []
owner_text (Some session) = codes " SESSION " ++ decimal session

-- a branch, with its phase and its owner
abbrev pub branch_line : BranchEntry → List ℕ
branch_line branch =
    codes "  BRANCH " ++ xid_text branch.xid ++ phase_text branch.phase ++ owner_text branch.owner ++ codes "\n"

-- how a branch holds a row
abbrev pub hold_text : List ℕ → Hold → List ℕ
hold_text key Shared = codes "    SHARES " ++ part_text key
hold_text key (Put value) = codes "    HOLDS " ++ part_text key ++ codes " WRITES " ++ part_text value.items
hold_text key Delete = codes "    HOLDS " ++ part_text key ++ codes " DELETES"

-- a row that the branch before it holds
abbrev pub hold_line : HeldRow → List ℕ
hold_line row = hold_text row.key row.hold ++ codes "\n"

-- a branch, and the rows that it holds
abbrev pub branch_lines : State → BranchEntry → List ℕ
branch_lines state branch = branch_line branch ++ flat_map hold_line (rows_of state branch.xid)

-- a value in the words of a reply
abbrev pub value_text : Option Text → List ℕ
value_text None = codes " NONE"
value_text (Some value) = codes " VALUE " ++ part_text value.items

-- the committed value of a row
abbrev pub row_line : State → List ℕ → List ℕ
row_line state key = codes "  ROW " ++ part_text key ++ value_text (committed_value state key) ++ codes "\n"

-- every branch, and these rows
unfoldable pub listing : State → List (List ℕ) → List ℕ
listing state keys = flat_map (branch_lines state) (branches_of state) ++ flat_map (row_line state) keys
