-- The number by which configurations are told apart: if two numbers differ, so do their configurations.
-- Every rule here is the project's own.
--     with_text .. with_key  a number after one more thing of that kind
use Rattle.std.specs.Prelude.{ℕ, ◌+◌, ◌*◌, ◌/◌, ◌%◌, ◌^◌, Option, Some, None, List, length, fold, bit_xor}
use Rattle.xa_xid.specs.{declared.xid.Xid.Xid, Xid.Text}
use Rattle.xa_server.specs.declared.{reply.Reply.Reply, xa_error.XaError.{XaError, TheVariants.Rmfail}}
use Rattle.xa_server.specs.declared.{xa_error.BranchState.BranchState, branch.Phase.Phase, hold.Hold.Hold}
use Rattle.xa_server.specs.declared.{hold.HeldRow.HeldRow, overview.BranchEntry.BranchEntry}
use Rattle.xa_server.specs.{State.{State, committed_value}, Errors.number_of, Overview.{branches_of, rows_of}}
use Rattle.xa_judge.specs.{declared.{answer.Answer.Answer, client_state.ClientState.ClientState}, Explained.Config}

-- a number after one more word: the xor of both, plus 1, times a constant, modulo 2^64; and then the xor of that with
-- its own upper 35 bits. The constant is odd, and is 2^64 divided by the golden ratio, rounded down
unfoldable pub with_word : ℕ → ℕ → ℕ
-- a number after one more word
with_word number word =
    let product = ((bit_xor number word + 1) % 2 ^ 64 * 11400714819323198485) % 2 ^ 64 in
    bit_xor product (product / 2 ^ 29)

-- the number so far, followed by the length of a text and its bytes
abbrev pub with_text : ℕ → List ℕ → ℕ
with_text number bytes = fold with_word (with_word number (length bytes)) bytes

-- the number so far, followed by an identifier
abbrev pub with_xid : ℕ → Xid → ℕ
with_xid number xid = with_text (with_text (with_word number xid.format_id) xid.gtrid.items) xid.bqual.items

-- the number so far, followed by 0 for no value, or by 1, the value's length and its bytes
abbrev pub with_value : ℕ → Option Text → ℕ
with_value number None = with_word number 0
with_value number (Some text) = with_text (with_word number 1) text.items

-- the number so far, followed by how many identifiers there are, and each of them
abbrev pub with_xids : ℕ → List Xid → ℕ
with_xids number xids = fold with_xid (with_word number (length xids)) xids

-- the number so far, followed by the state of a branch that a refusal names, as one word
abbrev pub with_state : ℕ → BranchState → ℕ
with_state number BranchState.NonExisting = with_word number 0
with_state number BranchState.Active = with_word number 1
with_state number BranchState.Idle = with_word number 2
with_state number BranchState.Prepared = with_word number 3

-- the number so far, followed by a refusal's number, and the state of a branch if it names one
abbrev pub with_error : ℕ → XaError → ℕ
with_error number (Rmfail state) = with_state (with_word number (number_of (Rmfail state))) state
with_error number error = with_word number (number_of error)

-- the number so far, followed by the kind of an answer as one word, and by what it has
abbrev pub with_answer : ℕ → Answer → ℕ
with_answer number Answer.Unread = with_word number 0
with_answer number (Answer.Reply Reply.Ok) = with_word number 1
with_answer number (Answer.Reply (Reply.Value value)) = with_value (with_word number 2) value
with_answer number (Answer.Reply (Reply.Recovered xids)) = with_xids (with_word number 3) xids
with_answer number (Answer.Reply (Reply.Refused error)) = with_error (with_word number 4) error

-- the number so far, followed by how far a session is, without what it has called for
abbrev pub with_client : ℕ → ClientState → ℕ
with_client number ClientState.Idle = with_word number 0
with_client number (ClientState.Called request) = with_word number 1
with_client number (ClientState.Answered answer) = with_answer (with_word number 2) answer
with_client number (ClientState.Gone None) = with_word number 3
with_client number (ClientState.Gone (Some request)) = with_word number 4
with_client number ClientState.Left = with_word number 5

-- the number so far, followed by a branch's phase, as one word
abbrev pub with_phase : ℕ → Phase → ℕ
with_phase number Phase.Active = with_word number 0
with_phase number Phase.Idle = with_word number 1
with_phase number Phase.Prepared = with_word number 2

-- the number so far, followed by a branch's owner, as one word: 0 is nobody
abbrev pub with_owner : ℕ → Option ℕ → ℕ
with_owner number None = with_word number 0
with_owner number (Some session) = with_word number session

-- the number so far, followed by how a branch holds a row, as one word, and the value, if it puts one
abbrev pub with_hold : ℕ → Hold → ℕ
with_hold number Hold.Shared = with_word number 0
with_hold number (Hold.Put value) = with_text (with_word number 1) value.items
with_hold number Hold.Delete = with_word number 2

-- the number so far, followed by a row that a branch holds: its key and how it is held
abbrev pub with_row : ℕ → HeldRow → ℕ
with_row number row = with_hold (with_text number row.key) row.hold

-- the number so far, followed by the rows that a branch holds: how many they are, and each row
abbrev pub with_rows : ℕ → List HeldRow → ℕ
with_rows number rows = fold with_row (with_word number (length rows)) rows

-- the number so far, followed by a branch of the server: its xid, phase, owner and rows
abbrev pub with_branch : State → ℕ → BranchEntry → ℕ
with_branch state number branch = with_rows (with_owner
    (with_phase (with_xid number branch.xid) branch.phase) branch.owner) (rows_of state branch.xid)

-- the number so far, followed by the committed value of a row
abbrev pub with_key : State → ℕ → List ℕ → ℕ
with_key state number key = with_value number (committed_value state key)

-- the number so far, followed by a server's branches with the rows that they hold, and by the committed values of the
-- rows with these keys
abbrev pub with_server : List (List ℕ) → ℕ → State → ℕ
with_server keys number state = fold (with_key state) (fold (with_branch state) number (branches_of state)) keys

-- a configuration's number: made of how far its sessions are, of its server's branches with the rows that they hold,
-- and of the committed values of the rows with these keys
unfoldable pub mark : List (List ℕ) → Config → ℕ
-- a configuration's number; the keys are those of the rows that were written
mark keys config = with_server keys (fold with_client 0 config.clients) config.state
