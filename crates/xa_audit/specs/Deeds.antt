-- What the accepted statements of a history do to branches: their deeds.
use Rattle.std.specs.{Prelude.{ℕ, cond, Option, Some, None, option_to_list, List, [], ◌∷◌, ◌++◌}, Option.option_map}
use Rattle.xa_xid.specs.{declared.{xid.Xid.Xid, statement.Statement.Statement}, Xid.same_xid}
use Rattle.xa_server.specs.{State.{State, no_state, own_xid}, Replies.reply_to, Step.{after, is_refused}}
use Rattle.xa_lines.specs.Script.{lines_of}
use Rattle.xa_audit.specs.{Histories.statements_in, declared.deed.Deed.Deed}

-- what an accepted statement does: XA START, PREPARE, COMMIT and ROLLBACK name the branch; PUT, DEL and DISCONNECT are
-- about the one that the session owns, if it owns one. The others change no life
abbrev pub deed_by : Option Xid → Statement → Option (Xid × Deed)
deed_by own (Statement.Start xid) = Some (xid, Deed.Starts)
deed_by own (Statement.End xid) = None
deed_by own (Statement.Prepare xid) = Some (xid, Deed.Prepares)
deed_by own (Statement.Commit xid one_phase) = Some (xid, Deed.Commits)
deed_by own (Statement.Rollback xid) = Some (xid, Deed.RollsBack)
deed_by own (Statement.Recover convert) = None
deed_by own Statement.Unsupported = None
deed_by own (Statement.Get key) = None
deed_by own (Statement.Put key value) = option_map (λ xid. (xid, Deed.Writes)) own
deed_by own (Statement.Del key) = option_map (λ xid. (xid, Deed.Writes)) own
deed_by own Statement.Disconnect = option_map (λ xid. (xid, Deed.RollsBack)) own

-- what a statement does in this state: nothing, if it is refused
unfoldable pub deed_of : State → ℕ → Statement → Option (Xid × Deed)
-- what a statement does, in a state: the branch and the deed
deed_of state session statement =
    cond (is_refused (reply_to state session statement)) None (deed_by (own_xid state session) statement)

-- the deeds of these statements, each of its session, from this state on, in order
unfoldable pub deeds_from : State → List (ℕ × Statement) → List (Xid × Deed)
-- the deeds of statements, beginning in a state
deeds_from state [] = []
deeds_from state (entry ∷ entries) =
    option_to_list (deed_of state entry.0 entry.1) ++ deeds_from (after state entry.0 entry.1) entries

-- the deeds of a history, by a server that holds nothing at first
abbrev pub deeds_in : List ℕ → List (Xid × Deed)
deeds_in history = deeds_from no_state (statements_in (lines_of history))

-- the deeds that are about this branch
unfoldable pub deeds_about : Xid → List (Xid × Deed) → List Deed
-- the deeds that are about one branch
deeds_about xid [] = []
deeds_about xid (told ∷ deeds) = cond (same_xid xid told.0) (told.1 ∷ deeds_about xid deeds) (deeds_about xid deeds)
