-- What a call over several stores did in them.
--     ends_first, ends_in      whether XA END comes before it;  and in a store, by what is open there
--     Settles, SettlesIn      a store that finishing has reached
--     asked_by_ending, asked_by_vote      the stores below this number were spoken to
--     KeepsMark, KeepsUnfinished      what is open in the store that a vote names;  and in the one that an Unfinished
--                                     names
use Rattle.std.specs.Prelude.{◌≡◌, ◌<◌, ◌+◌, ℕ, Bool, true, false, nat_eq, List, [], ◌∷◌, length, All, Option, Some}
use Rattle.std.specs.{Prelude.slice_get, List.list_any}
use Rattle.xa_xid.specs.declared.{xid.Xid.Xid, statement.Statement.Statement}
use Rattle.xa_session.specs.View.{SessionView}
use Rattle.xa_coordinator.specs.declared.closing.Closing.{Closing, TheVariants.{InTwoPhases, InOnePhase, RollBack}}
use Rattle.xa_coordinator.specs.{declared.transaction.{VoteKind.VoteKind, Transaction.Transaction}, Branch.branch_xid}
use Rattle.xa_coordinator.specs.declared.{ending.Ending.Ending, vote.Vote.Vote, participants.Participants.Participants}
use Rattle.xa_coordinator.specs.{declared.branches.{OpenBranch.OpenBranch, Phase.TheVariants.Idle}, Agreement.AddsEach}
use Rattle.xa_coordinator.specs.{Stores.{EachStore, EndsAt}, Participants.{takes_part, TwoTakePart, OnlyTakesPart}}
use Rattle.xa_coordinator.specs.OpenBranches.{has_working_branch, IsAsBeforeOrEnded}
use Rattle.xa_coordinator.specs.Told.{IsStopped, IsMissing, IsUnfinished}

-- the statement that finishes a branch
abbrev pub finish_statement : Closing → Xid → Statement
finish_statement InTwoPhases xid = Statement.Commit xid false
finish_statement InOnePhase xid = Statement.Commit xid true
finish_statement RollBack xid = Statement.Rollback xid

-- XA END comes before a rollback of a branch that takes work
abbrev pub ends_first : Closing → (working : Bool) → Bool
ends_first RollBack working = working
ends_first closing working = false

-- the branch was finished: the statement was added, after XA END if that comes before it
abbrev pub IsClosed : (ends : Bool) → Statement → Xid → SessionView → SessionView → Type 0
IsClosed false statement xid old new = AddsEach (statement ∷ []) old new
IsClosed true statement xid old new = AddsEach (Statement.End xid ∷ statement ∷ []) old new

-- whether the store is in the list
unfoldable pub lists_store : List ℕ → ℕ → Bool
-- whether a store is in a list
lists_store stores store = list_any (nat_eq store) stores

-- a participant's branch was finished, or wasn't known there if the store is listed; another store's session is as it
-- was
abbrev pub Settles : (ends : Bool) → Statement → Xid → (takes_part listed : Bool) → SessionView → SessionView → Type 0
Settles ends statement xid false listed old new = new ≡ old
Settles ends statement xid true false old new = IsClosed ends statement xid old new
Settles ends statement xid true true old new = IsMissing ends statement xid old new

-- a participant's branch was ended and prepared; another store's session is as it was
abbrev pub IsVoted : Xid → (takes_part : Bool) → SessionView → SessionView → Type 0
IsVoted xid false old new = new ≡ old
IsVoted xid true old new = AddsEach (Statement.End xid ∷ Statement.Prepare xid ∷ []) old new

-- a participant's branch was ended; another store's session is as it was
abbrev pub IsEnded : Xid → (takes_part : Bool) → SessionView → SessionView → Type 0
IsEnded xid false old new = new ≡ old
IsEnded xid true old new = AddsEach (Statement.End xid ∷ []) old new

-- the numbers of stores ascend: each is less than all after it
abbrev pub Ascends : List ℕ → Type 0
Ascends [] = Unit {0}
Ascends (store ∷ stores) = All (λ later. store < later) stores × Ascends stores

-- the stores of a Hazard: at least one, ascending, and each takes part
pub record IsHazard (participants : Participants) (stores : List ℕ) : Type 0 where
  pub some : 0 < length stores
  pub ascending : Ascends stores
  pub participate : All (λ store. takes_part participants store ≡ true) stores

-- whether branches that are finished in this way commit
abbrev pub commits : Closing → Bool
commits RollBack = false
commits closing = true

-- the branch of a transaction in a store
abbrev pub branch_of : Transaction → ℕ → Xid
branch_of transaction store = branch_xid transaction.name.items transaction.number store

-- whether XA END comes before the statement that finishes a transaction's branch in a store
abbrev pub ends_in : List (Option OpenBranch) → Transaction → Closing → ℕ → Bool
ends_in branches transaction closing store = ends_first closing (has_working_branch branches store transaction.number)

-- the branch of a store that takes part was finished, or wasn't known there if the store is listed; any other store's
-- session is as it was
abbrev pub SettlesIn : List (Option OpenBranch) → Transaction → Closing → ℕ → (listed : Bool) → SessionView
    → SessionView → Type 0
SettlesIn branches transaction closing store listed =
    Settles (ends_in branches transaction closing store) (finish_statement closing (branch_of transaction store))
    (branch_of transaction store)
    (takes_part transaction.participants store) listed

-- what an ending says of the participants' branches. Committed and RolledBack, by how the transaction was to be
-- finished: each was finished. Hazard: those of the listed stores weren't known, and the others were finished.
-- Unfinished: the one in this store wasn't finished, those below it were finished or weren't known, and the stores
-- above it got no statement
abbrev pub EndsAs : {S : Type 0} → (S → SessionView) → List (Option OpenBranch) → Transaction → Closing → Ending
    → List S → List S → Type 0
EndsAs view branches transaction closing Ending.Committed old new =
    (commits closing ≡ true) × EachStore view (λ store. SettlesIn branches transaction closing store false) old new
EndsAs view branches transaction closing Ending.RolledBack old new =
    (commits closing ≡ false) × EachStore view (λ store. SettlesIn branches transaction closing store false) old new
EndsAs view branches transaction closing (Ending.Hazard stores) old new =
    IsHazard transaction.participants stores.items
    × EachStore view (λ store. SettlesIn branches transaction closing store (lists_store stores.items store)) old new
EndsAs view branches transaction closing (Ending.Unfinished store cause) old new =
    (takes_part transaction.participants store ≡ true)
    × EndsAt view
    (λ other before after. (listed : Bool) × SettlesIn branches transaction closing other listed before after)
    store (IsUnfinished (ends_in branches transaction closing store)
    (finish_statement closing (branch_of transaction store))
    (branch_of transaction store) cause) old
    new

-- the stores below this number were spoken to, if they take part; all stores are below 16
abbrev pub asked_by_ending : Ending → ℕ
asked_by_ending (Ending.Unfinished store cause) = store + 1
asked_by_ending ending = 16

-- the stores below this number were spoken to, if they take part; all stores are below 16
abbrev pub asked_by_vote : Vote → ℕ
asked_by_vote (Vote.No prepared store cause) = store + 1
asked_by_vote Vote.Nothing = 0
asked_by_vote vote = 16

-- what a vote says: after Ready at least two stores take part, and each of their branches was ended and prepared; after
-- OnePhase one takes part, and its branch was ended; after No this participant's XA END or XA PREPARE wasn't carried
-- out, the branches below it were ended and prepared, and the stores above it got no statement; after Nothing no store
-- takes part, and no session changes
abbrev pub VotesAs : {S : Type 0} → (S → SessionView) → Transaction → Vote → List S → List S → Type 0
VotesAs view transaction (Vote.Ready prepared) old new =
    (prepared ≡ record { transaction = transaction; vote_kind = VoteKind.Ready })
    × TwoTakePart transaction.participants
    × EachStore view (λ store. IsVoted (branch_of transaction store)
    (takes_part transaction.participants store)) old new
VotesAs view transaction (Vote.OnePhase prepared) old new =
    (prepared ≡ record { transaction = transaction; vote_kind = VoteKind.OnePhase })
    × ((store : ℕ) × OnlyTakesPart transaction.participants store)
    × EachStore view (λ store. IsEnded (branch_of transaction store)
    (takes_part transaction.participants store)) old new
VotesAs view transaction (Vote.No prepared store cause) old new =
    (prepared ≡ record { transaction = transaction; vote_kind = VoteKind.No })
    × (takes_part transaction.participants store ≡ true)
    × EndsAt view (λ other. IsVoted (branch_of transaction other) (takes_part transaction.participants other))
    store (IsStopped true (Statement.Prepare (branch_of transaction store)) (branch_of transaction store) cause) old new
VotesAs view transaction Vote.Nothing old new =
    ((store : ℕ) → takes_part transaction.participants store ≡ false) × (new ≡ old)

-- after OnePhase the only participant's branch is IDLE; in the store that a No names, what is open is as
-- before or IDLE
abbrev pub KeepsMark : Transaction → Vote → List (Option OpenBranch) → List (Option OpenBranch) → Type 0
KeepsMark transaction (Vote.OnePhase prepared) old new =
    (store : ℕ) → takes_part transaction.participants store ≡ true
    → slice_get new store ≡ Some (Some (record { number = transaction.number; phase = Idle }))
KeepsMark transaction (Vote.No prepared store cause) old new = IsAsBeforeOrEnded store transaction.number old new
KeepsMark transaction vote old new = Unit {0}

-- in the store that an Unfinished names, what is open is as before, or the branch has ended its work
abbrev pub KeepsUnfinished : (number : ℕ) → Ending → List (Option OpenBranch) → List (Option OpenBranch) → Type 0
KeepsUnfinished number (Ending.Unfinished store cause) old new = IsAsBeforeOrEnded store number old new
KeepsUnfinished number ending old new = Unit {0}

-- how a transaction that was voted on is finished: in two phases if it is decided; else in one phase if its vote was
-- OnePhase; else by rolling back (presumed abort)
abbrev pub finish_for : Bool → VoteKind → Closing
finish_for true vote_kind = InTwoPhases
finish_for false VoteKind.OnePhase = InOnePhase
finish_for false vote_kind = RollBack
