-- Why a call is refused.
--     takes_work, takes_decision, takes_finish     whether a call is allowed in a stage
use Rattle.std.specs.Prelude.{ℕ, Bool, true, false, nat_lt, if◌then◌else◌, Option, Some, None, List}
use Rattle.xa_manager.specs.{declared.{call.Call.Call, stage.Stage.Stage, response.Response.Response}, Ledger.stage_of}

-- whether a transaction at this stage takes work
abbrev pub takes_work : Stage → Bool
takes_work (Stage.Working transaction) = true
takes_work stage = false

-- whether a transaction at this stage may be decided: its vote is Ready
abbrev pub takes_decision : Stage → Bool
takes_decision (Stage.Ready prepared) = true
takes_decision stage = false

-- whether a transaction at this stage may be finished: its vote is Ready, One Phase or No
abbrev pub takes_finish : Stage → Bool
takes_finish (Stage.Ready prepared) = true
takes_finish (Stage.Voted prepared) = true
takes_finish stage = false

-- the refusal of a call that only these stages allow: the transaction wasn't begun, or is in another stage
abbrev pub refusal_in : (Stage → Bool) → ℕ → Option Stage → Option Response
refusal_in takes number None = Some (Response.UnknownTransaction number)
refusal_in takes number (Some stage) = if takes stage then None else Some (Response.WrongStage number)

-- the refusal of a call that needs a store of this number: if there is no such store, that; else the given refusal, if
-- there is one
abbrev pub refusal_at : (stores store : ℕ) → Option Response → Option Response
refusal_at stores store refusal = if nat_lt store stores then refusal else Some (Response.UnknownStore store)

-- the refusal of a call: an unread line, an unknown store, an unknown transaction, a wrong stage, in this
-- order
abbrev pub refusal_of : ℕ → List Stage → Call → Option Response
refusal_of stores stages (Call.Unread place) = Some (Response.Unread place)
refusal_of stores stages (Call.Work number store statement) =
    refusal_at stores store (refusal_in takes_work number (stage_of stages number))
refusal_of stores stages (Call.Prepare number) = refusal_in takes_work number (stage_of stages number)
refusal_of stores stages (Call.Decide number) = refusal_in takes_decision number (stage_of stages number)
refusal_of stores stages (Call.Finish number) = refusal_in takes_finish number (stage_of stages number)
refusal_of stores stages (Call.Abandon number) = refusal_in takes_work number (stage_of stages number)
refusal_of stores stages (Call.Fail store calls) = refusal_at stores store None
refusal_of stores stages (Call.At store statement) = refusal_at stores store None
refusal_of stores stages call = None
