-- What a race gives is legal, and a run is to blame for the fault with which it stops.
use Rattle.std.{proofs.Common.{◌≡◌, ℕ, Bool, List, ap, sym, ◌∙◌, Some}, specs.Prelude.slice_get}
use Rattle.xa_xid.specs.declared.statement.Statement.{Statement}
use Rattle.xa_words.specs.Entry.{Entry}
use Rattle.xa_server.specs.State.{State}
use Rattle.decision_log.{specs.{declared.known.Known.Known, History.entries_of}, proofs.Histories.begins_through}
use Rattle.xa_store.specs.{Passes.{log_of, known_of}, Gathered.{IsTakenIn, AddsNothing}, Legal.{IsLegal, Stops, Blames}}
use Rattle.xa_store.specs.{Spread.HasAnswered, declared.{run.Run.Run, race_fault.RaceFault.RaceFault}}
use Rattle.xa_store.proofs.Legality.{legal_longer}
use Rattle.xa_session.specs.declared.answer.Answer.{Answer}

-- if a history has all that a pass knows, it has all that the pass knew before, if the pass has added nothing since
pub taken_before : (history : List Entry) (old new : Known) → AddsNothing old new → IsTakenIn history new
    → IsTakenIn history old
taken_before history old new keeps taken = record {
  seen = begins_through old.seen new.seen history keeps.seen taken.seen;
  mine = ap (λ n. entries_of n history) (sym keeps.number) ∙ taken.mine ∙ keeps.mine;
}

-- a run's answers are legal in a history that has all that its pass knows in the end
pub legal_in : (gate : ℕ → ℕ → Bool → Type 0) (base : State) (history : List Entry) (old new last : Known)
    (statements : List Statement) (answers : List Answer)
    → entries_of new.number new.seen ≡ new.mine → HasAnswered gate base old new statements answers
    → AddsNothing new last → IsTakenIn history last → IsLegal base history old statements answers
legal_in gate base history old new last statements answers part answered keeps taken =
    legal_longer base history old new statements answers answered.number part
    (taken_before history new last keeps taken) answered.legal

-- the fault with which a run stops is a fault for which this run is to blame
pub blames : (gate : ℕ → ℕ → Bool → Type 0) (base : State) (runs : List Run) (index : ℕ) (run : Run) (fault : RaceFault)
    → slice_get runs index ≡ Some run
    → Stops gate base (log_of run.pass).capacity (known_of run.pass) run.lines.items fault → Blames gate base runs fault
blames gate base runs index run (RaceFault.GateShut session line) found is =
    record { index = index; run = run; found = found; stops = is }
blames gate base runs index run (RaceFault.Full session line) found is =
    record { index = index; run = run; found = found; stops = is }
blames gate base runs index run RaceFault.NoMemory found is = tt
blames gate base runs index run RaceFault.ThreadRefused found is = tt
