-- The committed values of rows, before and after a statement.
--     named_after, named_made     the same where the key was noted;  and after all rows and branches were made
use Rattle.std.proofs.Common.{◌≡◌, ◌≢◌, ℕ, List, [], ◌∷◌, ◌++◌, ◌⊎◌, true, false, inl, inr, ap, sym, ◌∙◌, arith}
use Rattle.std.{proofs.lemmas.List.Elements.{Contains-append_left, Contains-append_right}, specs.Prelude.{Some, None}}
use Rattle.std.specs.{List.Contains, Ordering.eq_by_cmp, FinMap.get-empty}
use mathlib.Core.Bool.{true≢false}
use Rattle.xa_xid.specs.{declared.{xid.Xid.Xid, statement.Statement.Statement}, Xid.{Text, bytes_cmp}}
use Rattle.xa_xid.proofs.Orders.{bytes_total, exact_texts}
use Rattle.xa_server.specs.declared.{reply.Reply.Reply, xa_error.{XaError.XaError, BranchState.BranchState}}
use Rattle.xa_server.specs.declared.association.Association.{Association}
use Rattle.xa_server.specs.{State.{Branch, State, no_state, association_of}, Replies.{table, reply_to}}
use Rattle.xa_server.specs.Step.{with_changed, with_own_write, unless_refused, effect, after}
use Rattle.xa_server.proofs.Maps.{same_or_apart, get_inserted_apart}
use Rattle.xa_lines.specs.Listing.{listing}
use Rattle.xa_record.specs.States.{NamesAllRows, IsStateOf, leaves_rows}
use Rattle.std.specs.FinMap as map

-- changing a branch changes no committed value
changed_rows : (state : State) (xid : Xid) (change : Branch → Branch)
    → (with_changed state xid change).rows ≡ state.rows
changed_rows state xid change = grind (arith)

-- a statement that leaves rows (`leaves_rows`) has no effect on committed values
effect_rows : (state : State) (session : ℕ) (association : Association) (statement : Statement)
    → leaves_rows association statement ≡ true
    → (effect state session association statement).rows ≡ state.rows
unfolding effect
effect_rows state session association statement is = grind (arith, changed_rows, true≢false)

-- a statement that leaves committed values leaves them if it is refused, too
unless_rows : (reply : Reply) (state new : State) → new.rows ≡ state.rows
    → (unless_refused reply state new).rows ≡ state.rows
unless_rows reply state new same = grind (arith)

-- after a statement that leaves rows (`leaves_rows`) all committed values are as before
pub rows_left : (state : State) (session : ℕ) (statement : Statement)
    → leaves_rows (association_of state session) statement ≡ true
    → (after state session statement).rows ≡ state.rows
unfolding after
rows_left state session statement is = grind (arith, effect_rows, unless_rows)

-- keys with one more at the end contain that one
at_end : (keys : List (List ℕ)) (key other : List ℕ) → other ≡ key → Contains (keys ++ key ∷ []) other
at_end keys key other is = Contains-append_right keys (key ∷ []) other (0, omega (arith), sym is)

-- keys that name all rows still do with one key more
named_still : (state : State) (keys : List (List ℕ)) (key : List ℕ) → NamesAllRows keys state
    → NamesAllRows (keys ++ key ∷ []) state
named_still state keys key all = record {
  names = λ other has. Contains-append_left keys (key ∷ []) other (all.names other has);
}

-- whether keys name all rows depends on the rows alone
pub named_by_rows : (state new : State) (keys : List (List ℕ)) → new.rows ≡ state.rows → NamesAllRows keys state
    → NamesAllRows keys new
named_by_rows state new keys same all = grind (arith)

-- after a row was put in, a key that has a value, be it the row's or another, is among the keys with the row's own
named_put : (state : State) (keys : List (List ℕ)) (key : List ℕ) (value : Text) (other : List ℕ)
    → NamesAllRows keys state → map.get (map.insert state.rows key value) other ≢ None
    → (other ≡ key) ⊎ (eq_by_cmp bytes_cmp other key ≡ false) → Contains (keys ++ key ∷ []) other
named_put state keys key value other all has (inl is) = at_end keys key other is
named_put state keys key value other all has (inr apart) =
    Contains-append_left keys (key ∷ []) other (all.names other
    (λ none. has (get_inserted_apart bytes_total exact_texts state.rows key value other apart ∙ none)))

-- after the effect of a `PUT`, at once or in a branch, the keys with its own name all rows
named_by_effect : (state : State) (session : ℕ) (association : Association) (keys : List (List ℕ)) (key : List ℕ)
    (value : Text) → NamesAllRows keys state
    → NamesAllRows (keys ++ key ∷ []) (effect state session association (Statement.Put key value))
unfolding effect
named_by_effect state session Association.Free keys key value all =
    record {
      names = λ other has.
          named_put state keys key value other all has (same_or_apart bytes_total exact_texts other key);
    }
named_by_effect state session (Association.Active own) keys key value all =
    named_by_rows state (with_changed state own (with_own_write key (Some value))) (keys ++ key ∷ [])
    (changed_rows state own _)
    (named_still state keys key all)
named_by_effect state session (Association.Idle own) keys key value all = named_still state keys key all

-- keys that name all rows before a statement, and after its effect, do so whether it is refused or not
unless_named : (reply : Reply) (state new : State) (keys : List (List ℕ)) → NamesAllRows keys state
    → NamesAllRows keys new
    → NamesAllRows keys (unless_refused reply state new)
unless_named reply state new keys old after = grind (arith)

-- after a `PUT`, carried out or refused, the keys with its own name all rows
pub row_named : (state : State) (session : ℕ) (keys : List (List ℕ)) (key : List ℕ) (value : Text)
    → NamesAllRows keys state
    → NamesAllRows (keys ++ key ∷ []) (after state session (Statement.Put key value))
unfolding after
row_named state session keys key value all = grind (arith, named_by_effect, named_still, unless_named)

-- any keys name all rows of a server that holds nothing
pub none_named : (state : State) (keys : List (List ℕ)) → state ≡ no_state → NamesAllRows keys state
unfolding no_state
none_named state keys is = record {
  names = λ other has. absurd (has (ap (λ (s : State). map.get s.rows other) is ∙ get-empty bytes_cmp other));
}

-- after a `PUT` whose key was noted, the noted keys still name all rows
pub named_after : (state new : State) (session : ℕ) (keys longer : List (List ℕ)) (key : List ℕ) (value : Text)
    → longer ≡ keys ++ key ∷ [] → new ≡ after state session (Statement.Put key value)
    → NamesAllRows keys state → NamesAllRows longer new
named_after state new session keys longer key value is done named = grind (arith, row_named)

-- if rows were made over a server that holds nothing, and then branches, which leave rows as they are, the noted keys
-- name all rows
pub named_made : (empty rows prepared made : State) (none keys : List (List ℕ)) → empty ≡ no_state
    → (NamesAllRows none empty → NamesAllRows keys rows) → prepared.rows ≡ rows.rows → made.rows ≡ prepared.rows
    → NamesAllRows keys made
named_made empty rows prepared made none keys is taken one two = grind (arith, named_by_rows, none_named)

-- a text that is a server's listing, of keys among which is each that has a value, is a text of its state
pub is_listed : (text : List ℕ) (state : State) (keys : List (List ℕ)) → text ≡ listing state keys
    → NamesAllRows keys state → IsStateOf text state
is_listed text state keys lists all = record { keys = keys; lists = lists; all = all }

-- a session that has nothing open is answered RMFAIL, state NON-EXISTING, to each `XA END`
pub free_told : (state : State) (session : ℕ) (xid : Xid) → association_of state session ≡ Association.Free
    → reply_to state session (Statement.End xid) ≡ Reply.Refused (XaError.Rmfail BranchState.NonExisting)
unfolding reply_to table
free_told state session xid free = ap (λ association. table state association (Statement.End xid)) free
