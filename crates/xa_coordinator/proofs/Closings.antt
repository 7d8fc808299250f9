-- What one statement, or two, make of a branch that is prepared or finished.
use Rattle.std.proofs.Common.{◌≡◌, Bool, false, true, refl, inr, [], ◌∷◌, Result, Ok, Err}
use Rattle.xa_xid.specs.declared.{statement.Statement.{Statement, TheVariants.{End, Prepare}}, xid.Xid.Xid}
use Rattle.xa_session.specs.View.{SessionView}
use Rattle.xa_coordinator.specs.{declared.{fault.Cause.Cause, closing.Closing.Closing}, Agreement.AddsEach}
use Rattle.xa_coordinator.specs.declared.closing.{Closing.TheVariants.{InTwoPhases, InOnePhase, RollBack}, Found.Found}
use Rattle.xa_coordinator.specs.{Outcomes.ends_first, Parts.{SaysAs, ClosesAs, PreparesAs, IsToldAs}, Told.IsDone}
use Rattle.xa_coordinator.proofs.Telling.{each_then, each_alone}

-- an XA END and then an XA PREPARE that were carried out added these two entries
pub ended_prepared : (xid : Xid) (old mid new : SessionView) → IsDone (End xid) old mid → IsDone (Prepare xid) mid new
    → AddsEach (End xid ∷ Prepare xid ∷ []) old new
ended_prepared xid old mid new one two =
    each_then (End xid) (Prepare xid ∷ []) old mid new one (each_alone (Prepare xid) mid new two)

-- what became of the finishing statement is what became of the branch, if no XA END comes before the statement
pub said_alone : (statement : Statement) (xid : Xid) (found : Result Found Cause) (old new : SessionView)
    → SaysAs statement found old new
    → ClosesAs false statement xid found old new
said_alone statement xid (Ok Found.Closed) old new is = is
said_alone statement xid (Ok Found.Missing) old new is = is
said_alone statement xid (Err cause) old new is = is

-- after an XA END that was carried out, what became of the finishing statement is what became of the branch
pub said_behind : (statement : Statement) (xid : Xid) (found : Result Found Cause) (old mid new : SessionView)
    → IsDone (End xid) old mid
    → SaysAs statement found mid new → ClosesAs true statement xid found old new
said_behind statement xid (Ok Found.Closed) old mid new ends is =
    each_then (End xid) (statement ∷ []) old mid new ends is
said_behind statement xid (Ok Found.Missing) old mid new ends is = record { mid = mid; ends = ends; undone = is }
said_behind statement xid (Err cause) old mid new ends is = inr (is.0, record { mid = mid; ends = ends; undone = is.1 })

-- after an XA END that was carried out, what became of XA PREPARE is what became of the branch that was to be prepared
pub prepared_behind : (xid : Xid) (said : Result (Unit {0}) Cause) (old mid new : SessionView)
    → IsDone (End xid) old mid → IsToldAs (Prepare xid) said mid new
    → PreparesAs xid said old new
prepared_behind xid (Ok _) old mid new ends is = ended_prepared xid old mid new ends is
prepared_behind xid (Err cause) old mid new ends is = inr (record { mid = mid; ends = ends; undone = is })

-- if XA END comes before the statement that finishes a branch, that statement is a rollback
pub ends_roll_back : (closing : Closing) (working : Bool) → ends_first closing working ≡ true → closing ≡ RollBack
ends_roll_back InTwoPhases working is = absurd (cc)
ends_roll_back InOnePhase working is = absurd (cc)
ends_roll_back RollBack working is = refl
