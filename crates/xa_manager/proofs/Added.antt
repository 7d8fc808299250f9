-- Which statements calls add in the stores.
use Rattle.std.proofs.Common.{◌≡◌, ◌⊎◌, ℕ, Bool, true, false, List, [], ◌∷◌, ◌++◌, map, refl, ap, sym, ◌∙◌, subst, inl}
use Rattle.std.proofs.{Common.{inr, append-nil, append_assoc, Result, Ok, Err, arith}, lemmas.List.map-append}
use Rattle.std.proofs.lemmas.List.Elements.{All-nil, All-cons, All-append, All-head, All-tail, All-contains}
use Rattle.std.proofs.lemmas.{List.Elements.Contains-append_cases, Bool.Decides.nat_tests, Grind.common_steps}
use Rattle.std.specs.Prelude.{slice_get, Option, All, Contains}
use Rattle.xa_words.specs.Entry.{Entry}
use Rattle.xa_xid.specs.declared.{xid.Xid.Xid, statement.Statement.Statement}
use Rattle.xa_xid.specs.declared.statement.Statement.TheVariants.{Start, End, Prepare, Commit, Rollback, Disconnect}
use Rattle.xa_server.specs.{Step.enters, declared.reply.Reply.Reply}
use Rattle.xa_session.specs.{Answer.{entry_of, IsAnswered}, Replay.state_at, View.SessionView}
use Rattle.xa_session.specs.declared.answer.Answer.{Answer}
use Rattle.xa_coordinator.specs.{Agreement.AddsStatements, Branch.IsBranchOf, Decisions.is_decided, Outcomes.branch_of}
use Rattle.xa_coordinator.specs.Outcomes.{finish_statement, ends_in, lists_store, IsClosed, Settles, SettlesIn, IsVoted}
use Rattle.xa_coordinator.specs.{Outcomes.{IsEnded, EndsAs, VotesAs}, Participants.takes_part, Recovery.IsDisconnected}
use Rattle.xa_coordinator.specs.Recovery.{SettlesOne, foreign, committed, rolled_back, missing, Settled, nothing}
use Rattle.xa_coordinator.specs.{Recovery.{one_more, IsRecovered}, Stores.{AtStore, EachStore, ChangesAt}}
use Rattle.xa_coordinator.specs.Told.{IsUndone, IsUndoneBehind, IsStopped, IsMissing, IsUnfinished}
use Rattle.xa_coordinator.specs.Work.{MayStart, was_open, was_started, IsWorked, IsCut, WorksAs}
use Rattle.xa_coordinator.specs.declared.{branches.OpenBranch.OpenBranch, closing.Closing.Closing}
use Rattle.xa_coordinator.specs.declared.{decisions.Decision.Decision, ending.Ending.Ending, fault.Cause.Cause}
use Rattle.xa_coordinator.specs.declared.ending.Ending.TheVariants.{Committed, RolledBack, Hazard, Unfinished}
use Rattle.xa_coordinator.specs.declared.fault.WorkFault.{WorkFault, TheVariants.{Session, Refused, Lost}}
use Rattle.xa_coordinator.specs.declared.{report.Tally.Tally, transaction.Transaction.Transaction, vote.Vote.Vote}
use Rattle.xa_coordinator.proofs.Walk.{at_weaker, at_same, from_ends, only_at}

-- a session added statements of this kind alone
pub record AddsOnly (kind : Statement → Type 0) (old new : SessionView) : Type 0 where
  pub statements : List Statement
  pub number : new.known.number ≡ old.known.number
  pub mine : new.known.mine ≡ old.known.mine ++ map (entry_of old.known.number) statements
  pub each : All kind statements

-- in these lemmas each statement that may have been added is of the kind; so the session added only such (`AddsOnly`)
module _ (kind : Statement → Type 0) where
  -- a session that knows what it knew has added nothing
  pub adds_known : (old new : SessionView) → new.known ≡ old.known → AddsOnly kind old new
  adds_known old new same = grind (arith, append-nil)

  -- a session, compared with itself, has added nothing
  pub adds_none : (session : SessionView) → AddsOnly kind session session
  adds_none session = adds_known session session refl

  -- a session that is as it was has added nothing
  pub adds_same : (old new : SessionView) → new ≡ old → AddsOnly kind old new
  adds_same old new is = adds_known old new (ap (λ s. s.known) is)

  -- a session that added statements, each of the kind, added only such
  adds_these : (statements : List Statement) (old new : SessionView) → All kind statements
      → AddsStatements statements old new → AddsOnly kind old new
  adds_these statements old new each adds = grind (arith)

  -- a session that added one statement, of the kind, added only such
  adds_one : (statement : Statement) (old new : SessionView) → kind statement → AddsStatements (statement ∷ []) old new
      → AddsOnly kind old new
  adds_one statement old new is adds =
      adds_these (statement ∷ []) old new (All-cons kind statement [] is (All-nil kind)) adds

  -- a session that added two statements, both of the kind, added only such
  adds_two : (first second : Statement) (old new : SessionView) → kind first → kind second
      → AddsStatements (first ∷ second ∷ []) old new
      → AddsOnly kind old new
  adds_two first second old new is also adds =
      adds_these (first ∷ second ∷ []) old new (All-cons kind first (second ∷ []) is
      (All-cons kind second [] also (All-nil kind))) adds

  -- if only statements of the kind were added up to a session, and from it on, only such were added in all
  pub adds_behind : (old mid new : SessionView) → AddsOnly kind old mid → AddsOnly kind mid new → AddsOnly kind old new
  adds_behind old mid new one two = record {
    statements = one.statements ++ two.statements;
    number = two.number ∙ one.number;
    mine = two.mine
        ∙ ap (λ list. list ++ map (entry_of mid.known.number) two.statements) one.mine
        ∙ ap (λ n. (old.known.mine ++ map (entry_of old.known.number) one.statements)
        ++ map (entry_of n) two.statements) one.number
        ∙ append_assoc old.known.mine (map (entry_of old.known.number) one.statements)
        (map (entry_of old.known.number) two.statements)
        ∙ ap (λ list. old.known.mine ++ list) (sym (map-append
        (entry_of old.known.number) one.statements two.statements));
    each = All-append kind one.statements two.statements one.each two.each;
  }

  -- of a statement that wasn't carried out nothing was added
  undone : (statement : Statement) (cause : Cause) (old new : SessionView) → IsUndone statement cause old new
      → AddsOnly kind old new
  undone statement cause old new is = adds_these [] old new (All-nil kind) is.adds

  -- if XA END was carried out and the statement behind it wasn't, the XA END was added, which is of the kind
  undone_behind : (statement : Statement) (xid : Xid) (cause : Cause) (old new : SessionView) → kind (End xid)
      → IsUndoneBehind statement xid cause old new
      → AddsOnly kind old new
  undone_behind statement xid cause old new ends is =
      adds_behind old is.mid new (adds_one (End xid) old is.mid ends is.ends.adds)
      (undone statement cause is.mid new is.undone)

  -- if a statement wasn't carried out, or the XA END before it wasn't, at most the XA END was added
  stopped : (ends : Bool) (statement : Statement) (xid : Xid) (cause : Cause) (old new : SessionView) → kind (End xid)
      → IsStopped ends statement xid cause old new → AddsOnly kind old new
  stopped ends statement xid cause old new may is = grind (arith, undone, undone_behind)

  -- if a statement was answered XAER_NOTA, at most the XA END before it was added
  missed : (ends : Bool) (statement : Statement) (xid : Xid) (old new : SessionView) → kind (End xid)
      → IsMissing ends statement xid old new
      → AddsOnly kind old new
  missed ends statement xid old new may is = grind (arith, undone, undone_behind)

  -- if a branch wasn't finished, at most the XA END was added
  unfinished : (ends : Bool) (statement : Statement) (xid : Xid) (cause : Cause) (old new : SessionView)
      → kind (End xid)
      → IsUnfinished ends statement xid cause old new → AddsOnly kind old new
  unfinished false statement xid cause old new may is = undone statement cause old new is.1
  unfinished true statement xid cause old new may (inl is) = undone (End xid) cause old new is
  unfinished true statement xid cause old new may (inr is) = undone_behind statement xid cause old new may is.1

  -- if a branch was finished, the statement that does it was added, after XA END if that comes before it
  closed : (ends : Bool) (statement : Statement) (xid : Xid) (old new : SessionView) → kind (End xid) → kind statement
      → IsClosed ends statement xid old new
      → AddsOnly kind old new
  closed ends statement xid old new may is adds = grind (arith, adds_one, adds_two)

  -- a store that finishing reached added at most XA END and the finishing statement, and nothing if it takes no part
  settles : (ends : Bool) (statement : Statement) (xid : Xid) (takes listed : Bool) (old new : SessionView)
      → kind (End xid)
      → (takes ≡ true → kind statement) → Settles ends statement xid takes listed old new → AddsOnly kind old new
  settles ends statement xid takes listed old new may is same = grind (arith, adds_same, closed, missed)

  -- a store that preparing reached added XA END and XA PREPARE, or nothing if it takes no part
  voted : (xid : Xid) (takes : Bool) (old new : SessionView) → kind (End xid) → kind (Prepare xid)
      → IsVoted xid takes old new → AddsOnly kind old new
  voted xid takes old new may is same = grind (arith, adds_same, adds_two)

  -- after a vote of One Phase the only participant added XA END, and any other store nothing
  ended : (xid : Xid) (takes : Bool) (old new : SessionView) → kind (End xid) → IsEnded xid takes old new
      → AddsOnly kind old new
  ended xid takes old new may same = grind (arith, adds_one, adds_same)

  -- a statement that was answered, which is of the kind, was added or not
  pub answered : (statement : Statement) (answer : Answer) (old new : SessionView) → kind statement
      → IsAnswered old.base statement answer old.known new.known → AddsOnly kind old new
  answered statement answer old new may is =
      by (enters (state_at old.base new.known.seen answer.place) old.known.number statement) refl
    where
      by : (b : Bool) → enters (state_at old.base new.known.seen answer.place) old.known.number statement ≡ b
          → AddsOnly kind old new
      by true entering = record {
        statements = statement ∷ [];
        number = is.advances.number;
        mine = (is.entered entering).mine;
        each = All-cons kind statement [] may (All-nil kind);
      }
      by false outside = record {
        statements = [];
        number = is.advances.number;
        mine = (is.outside outside).mine ∙ sym (append-nil old.known.mine);
        each = All-nil kind;
      }

  -- if the branch was open, or its XA START was added, which is of the kind, and then only statements of the kind
  -- were added, all that was added is of the kind
  started : (xid : Xid) (old mid new : SessionView) → kind (Start xid) → MayStart xid old mid → AddsOnly kind mid new
      → AddsOnly kind old new
  started xid old mid new may (was_open is) more = more
  started xid old mid new may (was_started m is) more =
      adds_behind old m new (adds_one (Start xid) old m may is.adds) more

  -- ---- recovery
  -- of DISCONNECT, which is of the kind, one or none was added
  disconnected : (old new : SessionView) → kind Disconnect → IsDisconnected old new → AddsOnly kind old new
  disconnected old new may is = grind (arith, adds_one, adds_these)

  -- the kind has XA COMMIT of each decided branch of the coordinator's naming, and XA ROLLBACK of each undecided one
  module _ (decisions : List Decision) (name : List ℕ) (store : ℕ)
      (commits : (number : ℕ) (xid : Xid) → IsBranchOf name number store xid → is_decided decisions number ≡ true
      → kind (Commit xid false))
      (rolls : (number : ℕ) (xid : Xid) → IsBranchOf name number store xid → is_decided decisions number ≡ false
      → kind (Rollback xid)) where
    -- for one listed branch only an XA COMMIT or XA ROLLBACK of the kind was added, or nothing
    settled_one : (xid : Xid) (before after : Tally) (old new : SessionView)
        → SettlesOne decisions name store xid before old after new → AddsOnly kind old new
    settled_one xid before after old new (foreign apart) = adds_none old
    settled_one xid before after old new (committed number is decided n adds) =
        adds_one (Commit xid false) old n (commits number xid is decided) adds.adds
    settled_one xid before after old new (rolled_back number is decided n adds) =
        adds_one (Rollback xid) old n (rolls number xid is decided) adds.adds
    settled_one xid before after old new (missing number is n none) = undone _ _ old n none

    -- for the listed branches, one after another, only XA COMMIT and XA ROLLBACK of the kind were added
    settled : (old : SessionView) (xids : List Xid) (tally : Tally) (new : SessionView)
        → Settled decisions name store old xids tally new
        → AddsOnly kind old new
    settled old xids tally new nothing = adds_none old
    settled old xids tally new (one_more before first mid so_far xid after n is) =
        adds_behind old mid n (settled old before first mid so_far) (settled_one xid first after mid n is)

    -- the recovery of a store added only DISCONNECT, XA COMMIT and XA ROLLBACK of the kind
    pub recovered : (tally : Tally) (front : ℕ) (old new : SessionView) → kind Disconnect
        → IsRecovered decisions name store tally front old new
        → AddsOnly kind old new
    recovered tally front old new may is =
        let rest = is.settled.rest in
        adds_behind old is.settled.freed new (disconnected old is.settled.freed may is.settled.disconnected)
        (adds_behind is.settled.freed rest.listing new (adds_these [] is.settled.freed rest.listing
        (All-nil kind) rest.listed.adds)
        (adds_behind rest.listing is.finished new (settled rest.listing rest.xids tally is.finished rest.settled)
        (adds_these [] is.finished new (All-nil kind) is.clear.listed.adds)))

-- ---- what was added, and what wasn't
-- if each statement is of the kind, so is that of each entry that is made of one
in_map : (kind : Statement → Type 0) (number : ℕ) (statements : List Statement) → All kind statements
    → All (λ (entry : Entry). kind entry.statement) (map (entry_of number) statements)
in_map kind number [] each = All-nil (λ (entry : Entry). kind entry.statement)
in_map kind number (first ∷ rest) each =
    All-cons (λ (entry : Entry). kind entry.statement) (entry_of number first) (map (entry_of number) rest)
    (All-head kind first rest each)
    (in_map kind number rest (All-tail kind first rest each))

-- an entry that a session has added was added before, or its statement is of the kind that was added since
pub added_or_there : (kind : Statement → Type 0) (old new : SessionView) (entry : Entry) → AddsOnly kind old new
    → Contains new.known.mine entry
    → Contains old.known.mine entry ⊎ kind entry.statement
added_or_there kind old new entry adds there =
    elim (Contains-append_cases old.known.mine (map (entry_of old.known.number) adds.statements) entry
    (subst (λ list. Contains list entry) adds.mine there)) [
      | inl before ↦ inl before
      | inr now ↦ inr (All-contains (λ (e : Entry). kind e.statement)
          (map (entry_of old.known.number) adds.statements) entry
          (in_map kind old.known.number adds.statements adds.each) now)
    ]

-- an entry that a session had added is still its own after it added more
pub stays_there : (kind : Statement → Type 0) (old new : SessionView) (entry : Entry) → AddsOnly kind old new
    → Contains old.known.mine entry
    → Contains new.known.mine entry
stays_there kind old new entry adds there = grind (arith, common_steps, nat_tests)

-- ---- in each store
module _ {S : Type 0} (view : S → SessionView) (kind : ℕ → Statement → Type 0) where
  -- finishing a transaction adds in each store only statements of its kind, if that has the branch's XA END and,
  -- where the store takes part, the statement that finishes the branch
  pub ending_adds : (branches : List (Option OpenBranch)) (transaction : Transaction) (closing : Closing)
      (ending : Ending) (old new : List S)
      → ((store : ℕ) → kind store (End (branch_of transaction store)))
      → ((store : ℕ) → takes_part transaction.participants store ≡ true
      → kind store (finish_statement closing (branch_of transaction store)))
      → EndsAs view branches transaction closing ending old new
      → EachStore view (λ store. AddsOnly (kind store)) old new
  ending_adds branches transaction closing ending old new ends finishes = by ending
    where
      part : (store : ℕ) (listed : Bool) (a b : SessionView) → SettlesIn branches transaction closing store listed a b
          → AddsOnly (kind store) a b
      part store listed a b =
          settles (kind store) (ends_in branches transaction closing store)
          (finish_statement closing (branch_of transaction store))
          (branch_of transaction store) (takes_part transaction.participants store) listed a b (ends store)
          (finishes store)

      by : (ending : Ending) → EndsAs view branches transaction closing ending old new
          → EachStore view (λ store. AddsOnly (kind store)) old new
      by Committed is store = at_weaker view store _ (AddsOnly (kind store)) (part store false) old new (is.1 store)
      by RolledBack is store = at_weaker view store _ (AddsOnly (kind store)) (part store false) old new (is.1 store)
      by (Hazard stores) is store = at_weaker view store _ (AddsOnly (kind store))
          (part store (lists_store stores.items store)) old new (is.1 store)
      by (Unfinished last cause) is store =
          from_ends view _ (λ other. AddsOnly (kind other)) last _ old new is.1
          (λ other a b settled. part other settled.0 a b settled.1)
          (λ a b left. unfinished (kind last) (ends_in branches transaction closing last)
          (finish_statement closing (branch_of transaction last))
          (branch_of transaction last) cause a b (ends last) left)
          (λ other a. adds_none (kind other) a)
          store

  -- a vote adds in each store only statements of its kind, if that has the branch's XA END and XA PREPARE
  pub vote_adds : (transaction : Transaction) (vote : Vote) (old new : List S)
      → ((store : ℕ) → kind store (End (branch_of transaction store)))
      → ((store : ℕ) → kind store (Prepare (branch_of transaction store))) → VotesAs view transaction vote old new
      → EachStore view (λ store. AddsOnly (kind store)) old new
  vote_adds transaction (Vote.Ready prepared) old new ends prepares is store =
      at_weaker view store _ (AddsOnly (kind store))
      (λ a b. voted (kind store) (branch_of transaction store) (takes_part transaction.participants store) a b
      (ends store) (prepares store)) old new
      (is.2 store)
  vote_adds transaction (Vote.OnePhase prepared) old new ends prepares is store =
      at_weaker view store _ (AddsOnly (kind store))
      (λ a b. ended (kind store) (branch_of transaction store) (takes_part transaction.participants store) a b
      (ends store)) old new (is.2 store)
  vote_adds transaction (Vote.No prepared last cause) old new ends prepares is store =
      from_ends view _ (λ other. AddsOnly (kind other)) last _ old new is.2
      (λ other a b. voted (kind other) (branch_of transaction other) (takes_part transaction.participants other) a b
      (ends other) (prepares other))
      (λ a b left. stopped (kind last) true (Prepare (branch_of transaction last))
      (branch_of transaction last) cause a b (ends last) left)
      (λ other a. adds_none (kind other) a) store
  vote_adds transaction Vote.Nothing old new ends prepares is store = grind (arith, adds_none, at_same)

  -- work adds in each store only statements of its kind, if that of the store that works has the row statement and,
  -- where that store takes part then, the branch's XA START
  pub work_adds : (marks marks' : List (Option OpenBranch)) (before after : Transaction) (store : ℕ) (row : Statement)
      (answer : Result Reply WorkFault)
      (old new : List S) → (takes_part after.participants store ≡ true → kind store (Start (branch_of before store)))
      → kind store row
      → ChangesAt store old new → WorksAs view marks marks' before after store row answer old new
      → EachStore view (λ store. AddsOnly (kind store)) old new
  work_adds marks marks' before after store row answer old new starts may changes is =
      only_at view (λ other. AddsOnly (kind other)) store old new changes (by answer is)
      (λ other apart a. adds_none (kind other) a)
    where
      xid : Xid
      xid = branch_of before store

      cut : (cause : Cause) → takes_part after.participants store ≡ true → (a b : SessionView) → IsCut row cause xid a b
          → AddsOnly (kind store) a b
      cut cause takes a b is = started (kind store) xid a is.mid b (starts takes) is.opened
          (undone (kind store) row cause is.mid b is.undone)

      by : (answer : Result Reply WorkFault) → WorksAs view marks marks' before after store row answer old new
          → AtStore view store (AddsOnly (kind store)) old new
      by (Ok reply) is =
          at_weaker view store _ (AddsOnly (kind store))
          (λ (a b : SessionView) (worked : IsWorked row reply xid a b). started (kind store) xid a worked.mid b
          (starts is.0) worked.opened
          (answered (kind store) row (record { place = worked.replied.place; reply = reply }) worked.mid b may
          worked.replied.answered)) old new is.2
      by (Err (Session fault)) (inl is) = at_weaker view store _ (AddsOnly (kind store)) (cut _ is.0) old new is.2
      by (Err (Session fault)) (inr is) =
          at_weaker view store _ (AddsOnly (kind store)) (undone (kind store) _ _) old new is.3
      by (Err (Refused error)) is =
          at_weaker view store _ (AddsOnly (kind store)) (undone (kind store) _ _) old new is.3
      by (Err Lost) is = at_same view store (AddsOnly (kind store)) (λ a. adds_none (kind store) a) old new
          (ap (λ list. slice_get list store) is.4)

-- a store that took part before it was given work takes part after it
pub work_keeps : {S : Type 0} (view : S → SessionView) (marks marks' : List (Option OpenBranch))
    (before after : Transaction) (store : ℕ) (row : Statement)
    (answer : Result Reply WorkFault) (old new : List S) → WorksAs view marks marks' before after store row answer old
    new
    → takes_part before.participants store ≡ true → takes_part after.participants store ≡ true
work_keeps view marks marks' before after store row answer old new is takes = grind (arith)
