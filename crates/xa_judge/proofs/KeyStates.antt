-- The states of a record's two parts, and of the whole record: what a request of one part does to them.
--     free_of, unheld                  then sessions without a branch have nothing open;  nobody holds a chosen row
--     free_get, free_put, free_del     what a free session reads and writes
--     free_join, other_join            a request of one part is answered there as in the whole;  states stay joined
--     none_apart, none_listed          a state without branches
--     joined_first, joined_with        before all events;  if other sessions count as those that have no branch
use Rattle.std.proofs.Common.{◌≡◌, ◌⊎◌, ℕ, List, [], ◌∷◌, refl, ap, sym, ◌∙◌, subst, Bool, true, false, inl, inr, arith}
use Rattle.std.specs.{Prelude.{Option, Some, None, cond, not, ◌||◌, map as map_list}, List.list_any}
use Rattle.std.specs.{Option.{option_map, option_map_or}, Ordering.eq_by_cmp}
use Rattle.std.specs.FinMap.{get-empty, get-insert, get-remove, get-entries}
use mathlib.Core.Bool.{true≢false}
use Rattle.xa_xid.specs.declared.{xid.Xid.Xid, statement.Statement.Statement}
use Rattle.xa_xid.{specs.Xid.{Text, bytes_cmp, xid_cmp, same_xid}, proofs.Orders.{bytes_total, exact_texts}}
use Rattle.xa_server.specs.declared.{branch.Phase.Phase, reply.Reply.Reply, association.Association.Association}
use Rattle.xa_server.specs.{declared.overview.BranchEntry.BranchEntry, Overview.{entry_of, branches_of}}
use Rattle.xa_server.specs.{State.{committed_value, Write, Branch, State, association_of}, Locks.is_held_against}
use Rattle.xa_server.specs.{Replies.{table, reply_to}, Step.{started_by, with_changed, with_write, with_writes}}
use Rattle.xa_server.specs.Step.{with_lock, with_own_write, without_branch, row_written, committed, effect, after}
use Rattle.xa_server.proofs.Maps.{same_or_apart, get_inserted_apart, get_removed_apart}
use Rattle.xa_server.proofs.{Changes.{idle, detached, branch_after, effect-branch, outcome}, Others.none_found}
use Rattle.xa_judge.specs.{declared.{request.Request.Request, answer.Answer.Answer}, Explained.{answer_to, next_state}}
use Rattle.xa_judge.{specs.Near.{AreNear, ReadsNamed}, proofs.Clean.OwnsNone}
use Rattle.xa_judge.specs.Keys.{IsFreeRequest, IsOtherRequest, IsApartBranch, IsApartAt, IsApart, HasNoBranch}
use Rattle.xa_judge.proofs.NearStates.{near_answer, near_next, near_put, near_del}
use Rattle.std.specs.FinMap as map

-- ---- what a request of the other part does to branches

-- a key that is named differs from one that isn't
unlike : (named : List ℕ → Bool) (key other : List ℕ) → named other ≡ false → named key ≡ true
    → eq_by_cmp bytes_cmp key other ≡ false
unlike named key other unnamed is = grind (arith, bytes_total, exact_texts, same_or_apart)

-- if two branches are apart (`IsApartAt`), so is the one of them that a test picks
either_apart : (named : List ℕ → Bool) (free : ℕ → Bool) (b : Bool) (one other : Option Branch)
    → IsApartAt named free one → IsApartAt named free other → IsApartAt named free (cond b one other)
either_apart named free b one other is was = grind (arith)

-- if a change keeps each branch apart, a branch that is there and apart (`IsApartAt`) is still apart once it was
-- changed
changed_apart : (named : List ℕ → Bool) (free : ℕ → Bool) (change : Branch → Branch) (found : Option Branch)
    → ((branch : Branch) → IsApartBranch named free branch → IsApartBranch named free (change branch))
    → IsApartAt named free found → IsApartAt named free (option_map change found)
changed_apart named free change found keeps was = grind (arith)

-- a branch that a session starts is apart, if the session may have one
start_apart : (named : List ℕ → Bool) (free : ℕ → Bool) (session : ℕ) → free session ≡ false
    → IsApartBranch named free (started_by session)
start_apart named free session not_free = record {
  owner = λ other is e. absurd (true≢false (sym is ∙ ap free (sym (same_owner session other e)) ∙ not_free));
  writes = λ key is. get-empty bytes_cmp key;
  locks = λ key is. get-empty bytes_cmp key;
}
  where
    same_owner : (left right : ℕ) → Some left ≡ Some right → left ≡ right
    same_owner left right e = cc

-- a branch that is apart stays so once it shares a row that isn't chosen
lock_apart : (named : List ℕ → Bool) (free : ℕ → Bool) (key : List ℕ) (branch : Branch) → named key ≡ false
    → IsApartBranch named free branch → IsApartBranch named free (with_lock key branch)
lock_apart named free key branch unnamed was = grind (arith, bytes_total, exact_texts, get_inserted_apart)

-- a branch that is apart stays so once it writes a row that isn't chosen
write_apart : (named : List ℕ → Bool) (free : ℕ → Bool) (key : List ℕ) (write : Write) (branch : Branch)
    → named key ≡ false → IsApartBranch named free branch → IsApartBranch named free (with_own_write key write branch)
write_apart named free key write branch unnamed was = grind (arith, bytes_total, exact_texts, get_inserted_apart)

-- a branch that is apart stays so once it is detached
detached_apart : (named : List ℕ → Bool) (free : ℕ → Bool) (branch : Branch) → IsApartBranch named free branch
    → IsApartBranch named free (detached branch)
unfolding detached
detached_apart named free branch was = grind (arith)

-- a branch that is apart stays so once the work on it has ended
idle_apart : (named : List ℕ → Bool) (free : ℕ → Bool) (branch : Branch) → IsApartBranch named free branch
    → IsApartBranch named free (idle branch)
unfolding idle
idle_apart named free branch was = record { owner = was.owner; writes = was.writes; locks = was.locks }

-- the effect of a statement of the other part leaves a branch apart
branch_apart : (named : List ℕ → Bool) (free : ℕ → Bool) (session : ℕ) (association : Association)
    (statement : Statement) (at : Xid) (found : Option Branch)
    → IsOtherRequest named free session (Request.Statement statement)
    → IsApartAt named free found → IsApartAt named free (branch_after session association statement at found)
unfolding branch_after
branch_apart named free session association statement at found other was =
    grind (
      arith,
      changed_apart,
      detached,
      detached_apart,
      either_apart,
      idle,
      idle_apart,
      lock_apart,
      same_xid,
      start_apart,
      write_apart,
    )

-- a statement of the other part leaves every branch apart (`IsApart`)
statement_apart : (named : List ℕ → Bool) (free : ℕ → Bool) (state : State) (session : ℕ) (statement : Statement)
    → IsOtherRequest named free session (Request.Statement statement)
    → IsApart named free state → IsApart named free (after state session statement)
statement_apart named free state session statement other was = elim (outcome state session statement) [
  | inl refused ↦ subst (IsApart named free) (sym refused.1) was
  | inr done ↦ subst (IsApart named free) (sym done.1) (λ xid. subst (IsApartAt named free)
      (sym (effect-branch state session (association_of state session) statement xid))
      (branch_apart named free session (association_of state session) statement xid (map.get state.branches xid) other
      (was xid)))
]

-- a request of the other part leaves every branch apart (`IsApart`)
pub apart_after : (named : List ℕ → Bool) (free : ℕ → Bool) (state : State) (session : ℕ) (request : Request)
    → IsOtherRequest named free session request
    → IsApart named free state → IsApart named free (next_state state session request)
apart_after named free state session request other was = grind (arith, statement_apart)

-- ---- what follows for the sessions that have no branch, and for the chosen rows

-- where every branch is apart, a session that counts as one without a branch has nothing open
pub free_of : (named : List ℕ → Bool) (free : ℕ → Bool) (state : State) (session : ℕ) → IsApart named free state
    → free session ≡ true
    → association_of state session ≡ Association.Free
unfolding association_of
free_of named free state session are is = grind (arith, none_found)

-- a test that nothing passes is passed by none of a list
none_any : (p : Xid → Bool) (xs : List Xid) → ((x : Xid) → p x ≡ false) → list_any p xs ≡ false
none_any p [] none = refl
none_any p (x ∷ xs) none = ap (λ b. b || list_any p xs) (none x) ∙ none_any p xs none

-- where every branch is apart, nobody holds a chosen row
pub unheld : (named : List ℕ → Bool) (free : ℕ → Bool) (state : State) (key : List ℕ) → IsApart named free state
    → named key ≡ true
    → is_held_against state Association.Free key ≡ false
unfolding is_held_against
unheld named free state key are is = grind (arith, none_any)

-- ---- what a request of the other part does to chosen rows

-- writes of other rows leave the value of a row
unwritten : (key : List ℕ) (writes : List (List ℕ × Write)) (rows : map.FinMap bytes_cmp Text)
    → map.find bytes_cmp key writes ≡ None
    → map.get (with_writes writes rows) key ≡ map.get rows key
unwritten key [] rows none = refl
unwritten key (write ∷ writes) rows none =
    by (unwritten key writes rows) (eq_by_cmp bytes_cmp key write.0) refl none
  where
    aside : (w : Write) (rest : map.FinMap bytes_cmp Text) → eq_by_cmp bytes_cmp key write.0 ≡ false
        → map.get (with_write write.0 w rest) key ≡ map.get rest key
    aside None rest apart = get_removed_apart bytes_total exact_texts rest write.0 key apart
    aside (Some value) rest apart = get_inserted_apart bytes_total exact_texts rest write.0 value key apart

    something : {P : Type 0} → Some write.1 ≡ None → P
    something e = cc

    by : (map.find bytes_cmp key writes ≡ None → map.get (with_writes writes rows) key ≡ map.get rows key) → (b : Bool)
        → eq_by_cmp bytes_cmp key write.0 ≡ b
        → cond b (Some write.1) (map.find bytes_cmp key writes) ≡ None
        → map.get (with_write write.0 write.1 (with_writes writes rows)) key ≡ map.get rows key
    by rest true is none = something none
    by rest false is none = aside write.1 (with_writes writes rows) is ∙ rest none

-- changing a branch leaves all committed values
changed_rows : (state : State) (xid : Xid) (change : Branch → Branch)
    → (with_changed state xid change).rows ≡ state.rows
changed_rows state xid change = grind (arith)

-- committing a branch leaves the values of the chosen rows, if every branch is apart
committed_rows : (named : List ℕ → Bool) (free : ℕ → Bool) (state : State) (xid : Xid) (key : List ℕ)
    → IsApart named free state → named key ≡ true
    → committed_value (committed state xid) key ≡ committed_value state key
unfolding committed
committed_rows named free state xid key are is = by (map.get state.branches xid) (are xid)
  where
    by : (found : Option Branch) → IsApartAt named free found
        → map.get (option_map_or (λ (branch : Branch). record (without_branch state xid)
        { rows = with_writes (map.entries branch.writes) state.rows }) found state).rows key
        ≡ map.get state.rows key
    by None at = refl
    by (Some branch) at = unwritten key (map.entries branch.writes) state.rows
        (sym (get-entries branch.writes key) ∙ at.writes key is)

-- writing a row that isn't chosen, in a branch or outside of one, leaves the values of the chosen rows
written_rows : (named : List ℕ → Bool) (state : State) (association : Association) (other key : List ℕ)
    (write : Write) → named other ≡ false → named key ≡ true
    → committed_value (row_written state association other write) key ≡ committed_value state key
written_rows named state association other key write unnamed is =
    grind (arith, bytes_total, exact_texts, get_inserted_apart, get_removed_apart, unlike)

-- the effect of a statement of the other part leaves the values of the chosen rows, if every branch is apart
effect_rows : (named : List ℕ → Bool) (free : ℕ → Bool) (state : State) (session : ℕ) (association : Association)
    (statement : Statement) (key : List ℕ)
    → IsOtherRequest named free session (Request.Statement statement)
    → IsApart named free state → named key ≡ true
    → committed_value (effect state session association statement) key ≡ committed_value state key
unfolding effect
effect_rows named free state session association (Statement.Start xid) key other are is = refl
effect_rows named free state session association (Statement.End xid) key other are is =
    ap (λ rows. map.get rows key) (changed_rows state xid (λ branch. record branch { phase = Phase.Idle }))
effect_rows named free state session association (Statement.Prepare xid) key other are is =
    ap (λ rows. map.get rows key)
    (changed_rows state xid (λ branch. record branch { phase = Phase.Prepared; owner = None }))
effect_rows named free state session association (Statement.Commit xid one_phase) key other are is =
    committed_rows named free state xid key are is
effect_rows named free state session association (Statement.Rollback xid) key other are is = refl
effect_rows named free state session association (Statement.Recover convert) key other are is = refl
effect_rows named free state session association Statement.Unsupported key other are is = refl
effect_rows named free state session Association.Free (Statement.Get row) key other are is = refl
effect_rows named free state session (Association.Active own) (Statement.Get row) key other are is =
    ap (λ rows. map.get rows key) (changed_rows state own (with_lock row))
effect_rows named free state session (Association.Idle own) (Statement.Get row) key other are is = refl
effect_rows named free state session association (Statement.Put row value) key other are is =
    written_rows named state association row key (Some value) other is
effect_rows named free state session association (Statement.Del row) key other are is =
    written_rows named state association row key None other is
effect_rows named free state session Association.Free Statement.Disconnect key other are is = refl
effect_rows named free state session (Association.Active own) Statement.Disconnect key other are is = refl
effect_rows named free state session (Association.Idle own) Statement.Disconnect key other are is = refl

-- a request of the other part leaves the values of the chosen rows, if every branch is apart (`IsApart`)
pub rows_after : (named : List ℕ → Bool) (free : ℕ → Bool) (state : State) (session : ℕ) (request : Request)
    (key : List ℕ) → IsOtherRequest named free session request
    → IsApart named free state → named key ≡ true
    → committed_value (next_state state session request) key ≡ committed_value state key
rows_after named free state session Request.Unread key other are is = refl
rows_after named free state session (Request.Statement statement) key other are is = elim
    (outcome state session statement) [
      | inl refused ↦ ap (λ s. committed_value s key) refused.1
      | inr done ↦ ap (λ s. committed_value s key) done.1
          ∙ effect_rows named free state session (association_of state session) statement key other are is
    ]

-- ---- what a request of the chosen part does

-- a session that has nothing open reads the committed value
pub free_get : (state : State) (session : ℕ) (key : List ℕ) → association_of state session ≡ Association.Free
    → (reply_to state session (Statement.Get key) ≡ Reply.Value (committed_value state key)) ×
    (after state session (Statement.Get key) ≡ state)
unfolding reply_to table effect after
free_get state session key free = grind (arith)

-- a session that has nothing open writes a row at once that nobody holds
pub free_put : (state : State) (session : ℕ) (key : List ℕ) (value : Text) → association_of state session ≡
    Association.Free
    → is_held_against state Association.Free key ≡ false
    → (reply_to state session (Statement.Put key value) ≡ Reply.Ok)
    × (after state session (Statement.Put key value) ≡ record state { rows = with_write key (Some value) state.rows })
unfolding reply_to table effect after
free_put state session key value free nobody = grind (arith)

-- a session that has nothing open deletes a row at once that nobody holds
pub free_del : (state : State) (session : ℕ) (key : List ℕ) → association_of state session ≡ Association.Free
    → is_held_against state Association.Free key ≡ false
    → (reply_to state session (Statement.Del key) ≡ Reply.Ok)
    × (after state session (Statement.Del key) ≡ record state { rows = with_write key None state.rows })
unfolding reply_to table effect after
free_del state session key free nobody = grind (arith)

-- ---- the whole, by its parts

-- a row that isn't chosen
abbrev pub unnamed : (List ℕ → Bool) → List ℕ → Bool
unnamed named key = not (named key)

-- the whole has the branches and the other rows of the other part, and the chosen rows of the chosen part, which has
-- no branch. Every branch of the whole is apart (`IsApart`)
pub record AreJoined (named : List ℕ → Bool) (free : ℕ → Bool) (whole chosen rest : State) : Type 0 where
  pub near : AreNear (unnamed named) whole rest
  pub rows : (key : List ℕ) → named key ≡ true → committed_value whole key ≡ committed_value chosen key
  pub apart : IsApart named free whole
  pub none : HasNoBranch chosen

-- two tables of rows that agree at the chosen keys still do after the same write to both
same_write : (named : List ℕ → Bool) (key : List ℕ) (write : Write) (left right : map.FinMap bytes_cmp Text)
    → ((other : List ℕ) → named other ≡ true → map.get left other ≡ map.get right other)
    → (other : List ℕ) → named other ≡ true
    → map.get (with_write key write left) other ≡ map.get (with_write key write right) other
same_write named key (Some value) left right agree other is =
    get-insert bytes_total left key value other ∙ ap (cond (eq_by_cmp bytes_cmp other key) (Some value))
    (agree other is)
    ∙ sym (get-insert bytes_total right key value other)
same_write named key None left right agree other is =
    get-remove bytes_total left key other ∙ ap (cond (eq_by_cmp bytes_cmp other key) None) (agree other is)
    ∙ sym (get-remove bytes_total right key other)

-- after the same write in the whole and the chosen part the three are still joined, if the whole is still near the
-- other part
join_write : (named : List ℕ → Bool) (free : ℕ → Bool) (whole chosen rest new other_new : State) (key : List ℕ)
    (write : Write) → AreJoined named free whole chosen rest
    → new ≡ record whole { rows = with_write key write whole.rows }
    → other_new ≡ record chosen { rows = with_write key write chosen.rows }
    → AreNear (unnamed named) new rest
    → AreJoined named free new other_new rest
join_write named free whole chosen rest new other_new key write joined is was near = record {
  near = near;
  rows = λ other named_so. ap (λ (s : State). committed_value s other) is
      ∙ same_write named key write whole.rows chosen.rows joined.rows other named_so
      ∙ sym (ap (λ (s : State). committed_value s other) was);
  apart = subst (IsApart named free) (sym is) joined.apart;
  none = subst HasNoBranch (sym was) joined.none;
}

-- where there is no branch, every branch is apart (`IsApart`)
pub none_apart : (named : List ℕ → Bool) (free : ℕ → Bool) (state : State) → HasNoBranch state
    → IsApart named free state
none_apart named free state none xid = subst (IsApartAt named free) (sym (none xid)) tt

-- a request of the chosen part is answered there as in the whole, and leaves the three states joined (`AreJoined`)
pub free_join : (named : List ℕ → Bool) (free : ℕ → Bool) (whole chosen rest : State) (session : ℕ) (request : Request)
    → AreJoined named free whole chosen rest
    → IsFreeRequest named free session request
    → (answer_to whole session request ≡ answer_to chosen session request)
    × AreJoined named free (next_state whole session request) (next_state chosen session request) rest
free_join named free whole chosen rest session (Request.Statement (Statement.Get key)) joined is =
    let one = free_get whole session key (free_of named free whole session joined.apart is.0) in
    let other = free_get chosen session key
    (free_of named free chosen session (none_apart named free chosen joined.none) is.0) in (
      ap Answer.Reply (one.0 ∙ ap Reply.Value (joined.rows key is.1) ∙ sym other.0),
      subst (λ s. AreJoined named free s (after chosen session (Statement.Get key)) rest) (sym one.1)
          (subst (λ s. AreJoined named free whole s rest) (sym other.1) joined),
    )
free_join named free whole chosen rest session (Request.Statement (Statement.Put key value)) joined is =
    let nothing = free_of named free whole session joined.apart is.0 in
    let one = free_put whole session key value nothing (unheld named free whole key joined.apart is.1) in
    let other = free_put chosen session key value
    (free_of named free chosen session (none_apart named free chosen joined.none) is.0)
    (unheld named free chosen key (none_apart named free chosen joined.none) is.1) in (
      ap Answer.Reply (one.0 ∙ sym other.0),
      join_write named free whole chosen rest _ _ key (Some value) joined one.1 other.1
          (near_put (unnamed named) whole rest session key value joined.near nothing (ap not is.1)),
    )
free_join named free whole chosen rest session (Request.Statement (Statement.Del key)) joined is =
    let nothing = free_of named free whole session joined.apart is.0 in
    let one = free_del whole session key nothing (unheld named free whole key joined.apart is.1) in
    let other = free_del chosen session key
    (free_of named free chosen session (none_apart named free chosen joined.none) is.0)
    (unheld named free chosen key (none_apart named free chosen joined.none) is.1) in (
      ap Answer.Reply (one.0 ∙ sym other.0),
      join_write named free whole chosen rest _ _ key None joined one.1 other.1
          (near_del (unnamed named) whole rest session key joined.near nothing (ap not is.1)),
    )
free_join named free whole chosen rest session request joined is = absurd is

-- a request of the other part reads no chosen row
reads_others : (named : List ℕ → Bool) (free : ℕ → Bool) (session : ℕ) (request : Request)
    → IsOtherRequest named free session request
    → ReadsNamed (unnamed named) request
reads_others named free session request other = grind (arith)

-- a request of the other part is answered there as in the whole, and leaves the three states joined (`AreJoined`)
pub other_join : (named : List ℕ → Bool) (free : ℕ → Bool) (whole chosen rest : State) (session : ℕ)
    (request : Request)
    → AreJoined named free whole chosen rest
    → IsOtherRequest named free session request
    → (answer_to whole session request ≡ answer_to rest session request)
    × AreJoined named free (next_state whole session request) chosen (next_state rest session request)
other_join named free whole chosen rest session request joined other = (
  near_answer (unnamed named) whole rest session request joined.near (reads_others named free session request other),
  record {
    near = near_next (unnamed named) whole rest session request joined.near;
    rows = λ key is. rows_after named free whole session request key other joined.apart is ∙ joined.rows key is;
    apart = apart_after named free whole session request other joined.apart;
    none = joined.none;
  },
)

-- a state whose branches are an empty list has none
pub none_listed : (state : State) → branches_of state ≡ [] → HasNoBranch state
unfolding branches_of
none_listed state none xid = get-entries state.branches xid ∙ by (map.entries state.branches) none
  where
    some : {P : Type 0} (entry : Xid × Branch) (rest : List BranchEntry) → entry_of entry ∷ rest ≡ [] → P
    some entry rest e = cc

    by : (entries : List (Xid × Branch)) → map_list entry_of entries ≡ [] → map.find xid_cmp xid entries ≡ None
    by [] e = refl
    by (entry ∷ entries) e = some entry (map_list entry_of entries) e

-- before all events a base without branches is the whole and both parts (`AreJoined`)
pub joined_first : (named : List ℕ → Bool) (free : ℕ → Bool) (base : State) → HasNoBranch base
    → AreJoined named free base base base
joined_first named free base is = grind (arith)

-- the three states stay joined if `more` are the sessions that count as those without a branch: each of them did
-- before, or owns no branch in the whole
pub joined_with : (named : List ℕ → Bool) (free more : ℕ → Bool) (whole chosen rest : State)
    → ((session : ℕ) → more session ≡ true → (free session ≡ true) ⊎ OwnsNone whole session)
    → AreJoined named free whole chosen rest → AreJoined named more whole chosen rest
joined_with named free more whole chosen rest has joined = grind (arith)
