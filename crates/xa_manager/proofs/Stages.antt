-- How far transactions have come, in a list.
use Rattle.std.proofs.Common.{◌≡◌, ℕ, ◌<◌, ◌+◌, ◌-◌, ◌⊎◌, List, [], ◌∷◌, ◌++◌, zero, suc, length, arith, sym, refl, ap}
use Rattle.std.proofs.{Common.{inl, inr, Some, true}, lemmas.{List.{set_past, length-set}, Bool.Decides.nat_tests}}
use Rattle.std.{proofs.Math.Seq.set-append_seam, specs.Prelude.{slice_get, slice_set}}
use Rattle.xa_xid.specs.declared.statement.Statement.{Statement}
use Rattle.xa_coordinator.specs.{Work.IsRow, declared.transaction.{Transaction.Transaction, Prepared.Prepared}}
use Rattle.xa_coordinator.{specs.declared.transaction.VoteKind.VoteKind, proofs.Places.{get_set_is, get_set_other}}
use Rattle.xa_manager.specs.{declared.stage.Stage.{Stage, TheVariants.{Ready, Voted, Over}}, Calls.takes_rows}
use Rattle.xa_manager.specs.Ledger.{stage_of, with_stage, transaction_in, IsTransactionOf}

-- setting the stage of a number that was never given changes nothing
pub with_stage-absent : (stages : List Stage) (number : ℕ) (stage : Stage) → (number ≡ 0) ⊎ (length stages < number)
    → stages ≡ with_stage stages number stage
unfolding with_stage
with_stage-absent stages number stage absent = grind (arith, nat_tests, set_past)

-- setting a stage leaves how many stages there are
pub with_stage-length : (stages : List Stage) (number : ℕ) (stage : Stage)
    → length (with_stage stages number stage) ≡ length stages
unfolding with_stage
with_stage-length stages number stage = grind (arith, length-set {A = Stage})

-- of two settings of one place the second counts
set-twice : {A : Type 0} (xs : List A) (place : ℕ) (x y : A)
    → slice_set (slice_set xs place x) place y ≡ slice_set xs place y
set-twice [] place x y = refl
set-twice (z ∷ zs) zero x y = refl
set-twice (z ∷ zs) (suc n) x y = ap (λ rest. z ∷ rest) (set-twice zs n x y)

-- of two settings of one number the second counts
pub with_stage-twice : (stages : List Stage) (number : ℕ) (before after : Stage)
    → with_stage (with_stage stages number before) number after ≡ with_stage stages number after
unfolding with_stage
with_stage-twice stages number before after = grind (arith, set-twice {A = Stage})

-- writing again what stands at a place changes nothing
set-same : {A : Type 0} (xs : List A) (place : ℕ) (x : A) → slice_get xs place ≡ Some x → slice_set xs place x ≡ xs
set-same [] place x is = refl
set-same (y ∷ ys) zero x is = let e : y ≡ x = cc in ap (λ first. first ∷ ys) (sym e)
set-same (y ∷ ys) (suc n) x is = ap (λ rest. y ∷ rest) (set-same ys n x is)

-- setting the stage that is there changes nothing
pub with_stage-same : (stages : List Stage) (number : ℕ) (stage : Stage) → stage_of stages number ≡ Some stage
    → with_stage stages number stage ≡ stages
unfolding stage_of with_stage
with_stage-same stages number stage is = grind (arith, set-same {A = Stage})

-- a stage that was taken out for a call is put back: the stages are as before
pub put_back : (stages : List Stage) (number : ℕ) (between stage : Stage) (taken now : List Stage)
    → stage_of stages number ≡ Some stage
    → taken ≡ with_stage stages number between → now ≡ with_stage taken number stage
    → now ≡ stages
put_back stages number between stage taken now is out back = grind (arith, with_stage-same, with_stage-twice)

-- in place of a stage that was taken out for a call another is put: that is setting it
pub put_on : (stages : List Stage) (number : ℕ) (between stage : Stage) (taken now : List Stage)
    → taken ≡ with_stage stages number between
    → now ≡ with_stage taken number stage → now ≡ with_stage stages number stage
put_on stages number between stage taken now out back = grind (arith, with_stage-twice)

-- a stage that is found after one was set is that one, under its number, or was found before
pub stage_of-with : (stages : List Stage) (number other : ℕ) (stage found : Stage)
    → stage_of (with_stage stages number stage) other ≡ Some found
    → ((other ≡ number) × (stage ≡ found)) ⊎ (stage_of stages other ≡ Some found)
unfolding stage_of with_stage
stage_of-with stages number other stage found is = grind (arith, get_set_is, get_set_other, nat_tests)

-- what is found in a list with a last element is that one, at its end, or was found before
get-append : (stages : List Stage) (last found : Stage) (place : ℕ) → slice_get (stages ++ last ∷ []) place ≡ Some found
    → ((place ≡ length stages) × (last ≡ found)) ⊎ (slice_get stages place ≡ Some found)
get-append [] last found zero is = inl (refl, cc)
get-append [] last found (suc n) is = absurd (cc)
get-append (y ∷ ys) last found zero is = inr is
get-append (y ∷ ys) last found (suc n) is = grind (arith, get-append ys last found n is)

-- a stage that is found after one transaction more is the new one's, or was found before
pub stage_of-append : (stages : List Stage) (last found : Stage) (other : ℕ)
    → stage_of (stages ++ last ∷ []) other ≡ Some found
    → ((other ≡ length stages + 1) × (last ≡ found)) ⊎ (stage_of stages other ≡ Some found)
unfolding stage_of
stage_of-append stages last found other is = grind (arith, nat_tests, get-append)

-- setting the stage of the last transaction puts it in the place of the last stage
pub with_stage-last : (stages : List Stage) (before after : Stage) (number : ℕ) → number ≡ length stages + 1
    → with_stage (stages ++ before ∷ []) number after ≡ stages ++ after ∷ []
unfolding with_stage
with_stage-last stages before after number is =
    let place : number - 1 ≡ length stages = omega arith in
    let put = ap (λ at. slice_set (stages ++ before ∷ []) at after) place in
    grind (arith, nat_tests, put, set-append_seam stages before [] after)

-- each transaction that a stage in the list keeps is the one of its number, of the coordinator `c` over so many
-- stores
abbrev pub Kept : ℕ → List Stage → Type 0
Kept count stages =
    (number : ℕ) (stage : Stage) (transaction : Transaction) → stage_of stages number ≡ Some stage
    → transaction_in stage ≡ Some transaction
    → IsTransactionOf count number transaction

-- each vote that the stage Ready keeps is a vote of Ready
abbrev pub AllReady : List Stage → Type 0
AllReady stages = (number : ℕ) (prepared : Prepared) → stage_of stages number ≡ Some (Ready prepared)
    → prepared.vote_kind ≡ VoteKind.Ready

-- setting a stage keeps `Kept`, if the transaction of the new stage is the one of its number
pub kept_with : (count : ℕ) (stages : List Stage) (number : ℕ) (stage : Stage) → Kept count stages
    → ((transaction : Transaction) → transaction_in stage ≡ Some transaction → IsTransactionOf count number transaction)
    → Kept count (with_stage stages number stage)
kept_with count stages number stage kept is other found transaction there keeps =
    grind (arith, stage_of-with)

-- setting a stage keeps `AllReady`, if the new stage, where it is Ready, keeps a vote of Ready
pub ready_with : (stages : List Stage) (number : ℕ) (stage : Stage) → AllReady stages
    → ((prepared : Prepared) → stage ≡ Ready prepared → prepared.vote_kind ≡ VoteKind.Ready)
    → AllReady (with_stage stages number stage)
ready_with stages number stage ready is other prepared there = grind (arith, stage_of-with)

-- one stage more keeps `Kept`, if its transaction is the one of the next number
pub kept_more : (count : ℕ) (stages : List Stage) (last : Stage) → Kept count stages
    → ((transaction : Transaction) → transaction_in last ≡ Some transaction
    → IsTransactionOf count (length stages + 1) transaction)
    → Kept count (stages ++ last ∷ [])
kept_more count stages last kept is other found transaction there keeps = grind (arith, stage_of-append)

-- one stage more keeps `AllReady`, if it, where it is Ready, keeps a vote of Ready
pub ready_more : (stages : List Stage) (last : Stage) → AllReady stages
    → ((prepared : Prepared) → last ≡ Ready prepared → prepared.vote_kind ≡ VoteKind.Ready)
    → AllReady (stages ++ last ∷ [])
ready_more stages last ready is other prepared there = grind (arith, stage_of-append)

-- setting the stage Over keeps `Kept`: it keeps no transaction, so nothing has to hold of it
pub kept_over : (count : ℕ) (stages : List Stage) (number : ℕ) → Kept count stages
    → Kept count (with_stage stages number Over)
kept_over count stages number kept = kept_with count stages number Over kept (λ transaction is. absurd (cc))

-- setting the stage Over keeps `AllReady`
pub ready_over : (stages : List Stage) (number : ℕ) → AllReady stages → AllReady (with_stage stages number Over)
ready_over stages number ready = ready_with stages number Over ready (λ prepared is. absurd (cc))

-- the transaction of a vote that is kept is one of its number
pub kept_voted : (count : ℕ) (stages : List Stage) (number : ℕ) (prepared : Prepared) → Kept count stages
    → (stage_of stages number ≡ Some (Ready prepared)) ⊎ (stage_of stages number ≡ Some (Voted prepared))
    → IsTransactionOf count number prepared.transaction
kept_voted count stages number prepared kept (inl ready) = kept number (Ready prepared) prepared.transaction ready refl
kept_voted count stages number prepared kept (inr voted) = kept number (Voted prepared) prepared.transaction voted refl

-- GET, PUT and DEL are row statements
pub row : (statement : Statement) → takes_rows statement ≡ true → IsRow statement
row statement is = grind (arith)
