-- The numbers of refusals (MySQL 8.0 Reference Manual, 'Server Error Message Reference'; the XA codes are C193's return
-- codes), and their texts (own rule).
use Rattle.std.specs.Prelude.{ℕ, ℤ, negsuc, Option, Some, None, List, ◌++◌, codes}
use Rattle.xa_server.specs.declared.xa_error.{XaError.XaError, BranchState.BranchState}

-- the number of a refusal
abbrev pub number_of : XaError → ℕ
number_of XaError.Nota = 1397
number_of XaError.Inval = 1398
number_of (XaError.Rmfail state) = 1399
number_of XaError.Dupid = 1440
number_of XaError.RowLocked = 3572

-- the SQLSTATE of a refusal
abbrev pub sqlstate_of : XaError → List ℕ
sqlstate_of XaError.Nota = codes "XAE04"
sqlstate_of XaError.Inval = codes "XAE05"
sqlstate_of (XaError.Rmfail state) = codes "XAE07"
sqlstate_of XaError.Dupid = codes "XAE08"
sqlstate_of XaError.RowLocked = codes "HY000"

-- the XA return code of a refusal; None for RowLocked, which isn't an XA error. `negsuc n` is the number -(n + 1)
abbrev pub xa_code_of : XaError → Option ℤ
xa_code_of XaError.Nota = Some (negsuc 3)
xa_code_of XaError.Inval = Some (negsuc 4)
xa_code_of (XaError.Rmfail state) = Some (negsuc 6)
xa_code_of XaError.Dupid = Some (negsuc 7)
xa_code_of XaError.RowLocked = None

-- a branch's state as the text of XAER_RMFAIL names it
abbrev pub state_text : BranchState → List ℕ
state_text BranchState.NonExisting = codes "NON-EXISTING"
state_text BranchState.Active = codes "ACTIVE"
state_text BranchState.Idle = codes "IDLE"
state_text BranchState.Prepared = codes "PREPARED"

-- the text of a refusal: the manual's name, if there is one, and then words of our own
abbrev pub message_of : XaError → List ℕ
message_of XaError.Nota = codes "XAER_NOTA unknown xid"
message_of XaError.Inval = codes "XAER_INVAL clause not supported"
message_of (XaError.Rmfail state) = codes "XAER_RMFAIL state " ++ state_text state
message_of XaError.Dupid = codes "XAER_DUPID xid already exists"
message_of XaError.RowLocked = codes "row locked by another branch"
