-- One moment of a run: what it leaves of the other sessions, and that the machine stays in a state that is allowed.
use Rattle.std.proofs.Common.{◌≡◌, ◌≢◌, ◌⊎◌, ℕ, ◌+◌, cond, true, false, Bool, Some, None, refl, ap, sym, ◌∙◌, inl, inr}
use Rattle.std.{proofs.Common.{eq-eqb, ne_eqb}, specs.Prelude.Option}
use Rattle.xa_server.specs.State.{State}
use Rattle.decision_log.specs.{Machine.{Seen, Event, Look, Add, IsState}, Reached.session_of}
use Rattle.decision_log.{specs.declared.known.Known.Known, proofs.MachineLaw.state_next}
use Rattle.xa_session.specs.Timed.{Moment, Call, Return, Fail, Log, Open, Stage, changed, known_at, Comes}

-- a boolean is true or false
pub either : (b : Bool) → (b ≡ true) ⊎ (b ≡ false)
either true = inl refl
either false = inr refl

-- at its number a changed function has the new value
pub changed_there : {A : Type 0} (values : ℕ → A) (number : ℕ) (value : A) → changed values number value number ≡ value
changed_there values number value = ap (λ b. cond b value (values number)) (eq-eqb number number refl)

-- at every other number it has the old one
pub changed_other : {A : Type 0} (values : ℕ → A) (number other : ℕ) (value : A) → other ≢ number
    → changed values number value other ≡ values other
changed_other values number other value apart =
    ap (λ b. cond b value (values other)) (ne_eqb other number apart)

-- the session whose moment it is
abbrev pub who : Moment → ℕ
who (Call session statement) = session
who (Return session answer) = session
who (Fail session) = session
who (Log event) = session_of event

-- the session knows what it knew, and has the call that it had
pub record Leaves (n : ℕ) (old new : Stage) : Type 0 where
  pub known : known_at new n ≡ known_at old n
  pub call : new.calls n ≡ old.calls n

-- what a session of this number knows, by what the machine says and how often it has looked
abbrev pub known_by : ℕ → Seen → ℕ → Known
known_by number seen looks =
    record { number = number; seen = seen.seen; mine = seen.mine; looks = looks; tries = 0; since = 0 }

-- an event of another session leaves what a session knows
event_known : (event : Event) (old new : Stage) (n : ℕ) → session_of event ≢ n → (base : State)
    → Comes base (Log event) old new
    → known_at new n ≡ known_at old n
event_known (Look m) old new n apart base comes =
    ap (λ seen. known_by n seen (new.looks n)) (comes.0.others n (λ e. apart (sym e)))
    ∙ ap (known_by n (old.machine.knows n))
    (ap (λ (f : ℕ → ℕ). f n) comes.2 ∙ changed_other old.looks m n (old.looks m + 1) (λ e. apart (sym e)))
event_known (Add m entry) old new n apart base comes =
    ap (λ seen. known_by n seen (new.looks n)) (comes.0.others n (λ e. apart (sym e)))
    ∙ ap (known_by n (old.machine.knows n)) (ap (λ (f : ℕ → ℕ). f n) comes.2)

-- a moment of another session leaves what a session knows, and its call
pub frame : (base : State) (moment : Moment) (old new : Stage) (n : ℕ) → who moment ≢ n → Comes base moment old new
    → Leaves n old new
frame base (Call m statement) old new n apart comes =
    record {
      known = ap (λ stage. known_at stage n) comes.1;
      call = ap (λ (stage : Stage). stage.calls n) comes.1
          ∙ changed_other old.calls m n (Some (record { statement = statement; old = known_at old m }))
          (λ e. apart (sym e));
    }
frame base (Return m answer) old new n apart comes =
    record {
      known = ap (λ stage. known_at stage n) comes.3;
      call = ap (λ (stage : Stage). stage.calls n) comes.3 ∙ changed_other old.calls m n None (λ e. apart (sym e));
    }
frame base (Fail m) old new n apart comes =
    record {
      known = ap (λ stage. known_at stage n) comes.3;
      call = ap (λ (stage : Stage). stage.calls n) comes.3 ∙ changed_other old.calls m n None (λ e. apart (sym e));
    }
frame base (Log event) old new n apart comes =
    record {
      known = event_known event old new n apart base comes;
      call = ap (λ (f : ℕ → Option Open). f n) comes.3;
    }

-- after each moment the machine is in a state that is allowed
pub state_comes : (base : State) (moment : Moment) (old new : Stage) → Comes base moment old new → IsState old.machine
    → IsState new.machine
state_comes base (Call m statement) old new comes state = rw comes.1 state
state_comes base (Return m answer) old new comes state = rw comes.3 state
state_comes base (Fail m) old new comes state = rw comes.3 state
state_comes base (Log event) old new comes state = state_next event old.machine new.machine comes.0 state
