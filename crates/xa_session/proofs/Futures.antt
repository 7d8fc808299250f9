-- What comes next of a session in a run: whether its call returns before it looks or appends again, and what its call
-- returns.
use Rattle.std.proofs.Common.{◌≡◌, ◌≢◌, ◌⊎◌, ℕ, Some, None, List, [], ◌∷◌, refl, ap, sym, ◌∙◌, subst, inl, inr}
use Rattle.std.proofs.lemmas.Option.{none-some, same_Some}
use mathlib.Core.Logic.{dite}
use Rattle.xa_server.specs.{State.State, declared.reply.Reply.Reply}
use Rattle.decision_log.specs.{Machine.{Look, Add}, Reached.session_of}
use Rattle.xa_session.{specs.{declared.answer.Answer.Answer, Answer.IsAnswered}, proofs.Moments.{who, frame}}
use Rattle.xa_session.specs.Timed.{Moment, Call, Return, Fail, Log, Open, Stage, known_at, Passes}
use native.Mathlib.Decide.{ℕ_discrete}

-- before anything else of the session its call returns this answer
abbrev pub Soon : ℕ → Answer → List Moment → Type 0
Soon n answer [] = ⊥
Soon n answer (Call m statement ∷ moments) = Soon n answer moments
Soon n answer (Return m other ∷ moments) = (m ≡ n → other ≡ answer) × (m ≢ n → Soon n answer moments)
Soon n answer (Fail m ∷ moments) = (m ≢ n) × Soon n answer moments
Soon n answer (Log event ∷ moments) = (session_of event ≢ n) × Soon n answer moments

-- something else of the session comes first, or nothing
abbrev pub Late : ℕ → List Moment → Type 0
Late n [] = Unit {0}
Late n (Call m statement ∷ moments) = Late n moments
Late n (Return m other ∷ moments) = (m ≢ n) × Late n moments
Late n (Fail m ∷ moments) = m ≢ n → Late n moments
Late n (Log event ∷ moments) = session_of event ≢ n → Late n moments

-- the session's call ends in no fault, and what it returns has this reply; it appends nothing before that
abbrev pub Ends : ℕ → Reply → List Moment → Type 0
Ends n reply [] = Unit {0}
Ends n reply (Call m statement ∷ moments) = Ends n reply moments
Ends n reply (Return m answer ∷ moments) = (m ≡ n → answer.reply ≡ reply) × (m ≢ n → Ends n reply moments)
Ends n reply (Fail m ∷ moments) = (m ≢ n) × Ends n reply moments
Ends n reply (Log (Look m) ∷ moments) = Ends n reply moments
Ends n reply (Log (Add m entry) ∷ moments) = (m ≢ n) × Ends n reply moments

-- a call returns soon or late
pub soon_or_late : (n : ℕ) (moments : List Moment) → ((answer : Answer) × Soon n answer moments) ⊎ Late n moments
soon_or_late n [] = inr tt
soon_or_late n (Call m statement ∷ moments) = soon_or_late n moments
soon_or_late n (Return m other ∷ moments) =
    dite (ℕ_discrete m n) (λ same. inl (other, ((λ e. refl), (λ apart. absurd (apart same)))))
    (λ apart. elim (soon_or_late n moments) [
      | inl soon ↦ inl (soon.0, ((λ same. absurd (apart same)), (λ other. soon.1)))
      | inr late ↦ inr (apart, late)
    ])
soon_or_late n (Fail m ∷ moments) =
    dite (ℕ_discrete m n) (λ same. inr (λ apart. absurd (apart same)))
    (λ apart. elim (soon_or_late n moments) [
      | inl soon ↦ inl (soon.0, (apart, soon.1))
      | inr late ↦ inr (λ other. late)
    ])
soon_or_late n (Log event ∷ moments) =
    dite (ℕ_discrete (session_of event) n) (λ same. inr (λ apart. absurd (apart same)))
    (λ apart. elim (soon_or_late n moments) [
      | inl soon ↦ inl (soon.0, (apart, soon.1))
      | inr late ↦ inr (λ other. late)
    ])

-- what is late still is after a moment of another session
pub late_after : (n : ℕ) (moment : Moment) (moments : List Moment) → who moment ≢ n → Late n (moment ∷ moments)
    → Late n moments
late_after n (Call m statement) moments apart late = late
late_after n (Return m other) moments apart late = late.1
late_after n (Fail m) moments apart late = late apart
late_after n (Log event) moments apart late = late apart

-- how a call ends is still to come after a moment of another session
pub ends_after : (n : ℕ) (reply : Reply) (moment : Moment) (moments : List Moment) → who moment ≢ n
    → Ends n reply (moment ∷ moments)
    → Ends n reply moments
ends_after n reply (Call m statement) moments apart ends = ends
ends_after n reply (Return m other) moments apart ends = ends.1 apart
ends_after n reply (Fail m) moments apart ends = ends.1
ends_after n reply (Log (Look m)) moments apart ends = ends
ends_after n reply (Log (Add m entry)) moments apart ends = ends.1

-- a call that returns an answer soon ends with its reply
pub soon_ends : (n : ℕ) (answer : Answer) (moments : List Moment) → Soon n answer moments → Ends n answer.reply moments
soon_ends n answer [] soon = absurd soon
soon_ends n answer (Call m statement ∷ moments) soon = soon_ends n answer moments soon
soon_ends n answer (Return m other ∷ moments) soon =
    ((λ same. ap (λ (a : Answer). a.reply) (soon.0 same)), (λ apart. soon_ends n answer moments (soon.1 apart)))
soon_ends n answer (Fail m ∷ moments) soon = (soon.0, soon_ends n answer moments soon.1)
soon_ends n answer (Log (Look m) ∷ moments) soon = soon_ends n answer moments soon.1
soon_ends n answer (Log (Add m entry) ∷ moments) soon = (soon.0, soon_ends n answer moments soon.1)

-- a call that returns an answer soon is answered as the session theorem says, by what its session knows now
pub soon_answered : (base : State) (n : ℕ) (answer : Answer) (moments : List Moment) (old new : Stage) (call : Open)
    → Soon n answer moments → Passes base moments old new
    → old.calls n ≡ Some call
    → IsAnswered base call.statement answer call.old (known_at old n)
soon_answered base n answer [] old new call soon passes has = absurd soon
soon_answered base n answer (Call m statement ∷ moments) old new call soon passes has =
    let apart : m ≢ n = λ same. none-some call (sym (subst (λ k. old.calls k ≡ None) same passes.1.0) ∙ has) in
    let leaves = frame base (Call m statement) old passes.0 n apart passes.1 in
    subst (λ known. IsAnswered base call.statement answer call.old known) leaves.known
    (soon_answered base n answer moments passes.0 new call soon passes.2 (leaves.call ∙ has))
soon_answered base n answer (Return m other ∷ moments) old new call soon passes has =
    dite (ℕ_discrete m n)
    (λ same.
    let it : passes.1.0 ≡ call = same_Some passes.1.0 call
    (sym (subst (λ k. old.calls k ≡ Some passes.1.0) same passes.1.1) ∙ has) in
    subst (λ (c : Open). IsAnswered base c.statement answer c.old (known_at old n)) it
    (subst (λ (a : Answer). IsAnswered base passes.1.0.statement a passes.1.0.old (known_at old n)) (soon.0 same)
    (subst (λ k. IsAnswered base passes.1.0.statement other passes.1.0.old (known_at old k)) same passes.1.2)))
    (λ apart.
    let leaves = frame base (Return m other) old passes.0 n apart passes.1 in
    subst (λ known. IsAnswered base call.statement answer call.old known) leaves.known
    (soon_answered base n answer moments passes.0 new call (soon.1 apart) passes.2 (leaves.call ∙ has)))
soon_answered base n answer (Fail m ∷ moments) old new call soon passes has =
    let leaves = frame base (Fail m) old passes.0 n soon.0 passes.1 in
    subst (λ known. IsAnswered base call.statement answer call.old known) leaves.known
    (soon_answered base n answer moments passes.0 new call soon.1 passes.2 (leaves.call ∙ has))
soon_answered base n answer (Log event ∷ moments) old new call soon passes has =
    let leaves = frame base (Log event) old passes.0 n soon.0 passes.1 in
    subst (λ known. IsAnswered base call.statement answer call.old known) leaves.known
    (soon_answered base n answer moments passes.0 new call soon.1 passes.2 (leaves.call ∙ has))
