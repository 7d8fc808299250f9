-- How a transaction manager answers lines, one after another.
use Rattle.std.specs.Prelude.{◌≡◌, ◌⊎◌, ℕ, Bool, true, false, None, Ok, Err, List, codes}
use Rattle.xa_server.specs.declared.reply.Reply.{Reply, TheVariants.{Ok as Done, Value}}
use Rattle.xa_session.specs.View.{SessionView}
use Rattle.xa_coordinator.specs.declared.{fused.Fused.Fused, ending.Ending.Ending, fault.WorkFault.TheVariants.Lost}
use Rattle.xa_lines.specs.Received.{Received, Whole, TooLong}
use Rattle.xa_manager.specs.declared.{call.Call.Call, vote_answer.VoteAnswer.TheVariants.No, response.Response.Response}
use Rattle.xa_manager.specs.{Calls.call_of, Texts.answer_text, Carried.WholeManager, Whole.Performs}

-- the call that a line is; one that is too long isn't read
abbrev pub call_said : Received → Call
call_said (Whole line) = call_of line
call_said TooLong = Call.Unread 0

-- the answer if memory is refused (number and SQLSTATE are the manual's, ER_OUTOFMEMORY; the rest is an own
-- rule)
abbrev pub refused_text : List ℕ
refused_text = codes "ERROR 1037 (HY001): out of memory\n"

-- whether the reply is one word: OK, or that there is no row of the key
abbrev pub is_word : Reply → Bool
is_word Done = true
is_word (Value None) = true
is_word reply = false

-- a response to a call that was carried out whose words take no memory: a fixed word or few, or TRANSACTION n
abbrev pub has_few_words : Response → Bool
has_few_words (Response.Begun number) = true
has_few_words Response.NumbersSpent = true
has_few_words (Response.Worked (Ok reply)) = is_word reply
has_few_words (Response.Worked (Err Lost)) = true
has_few_words (Response.Voted (No store cause)) = false
has_few_words (Response.Voted vote) = true
has_few_words Response.Decided = true
has_few_words Response.Closed = true
has_few_words (Response.Ended Ending.Committed) = true
has_few_words (Response.Ended Ending.RolledBack) = true
has_few_words Response.Limited = true
has_few_words Response.Stopped = true
has_few_words (Response.Replied convert (Ok reply)) = is_word reply
has_few_words response = false

-- memory was refused for a call, and no session got a statement and nothing changed; or the call was refused by the
-- table or carried out, and memory was refused for its answer, which isn't of few words (`has_few_words`): none of
-- BEGIN, DECIDE, FAIL and STOP is carried out then. A blank line and a comment are never answered so
pub record IsRefusedCall {S T : Type 0} (view : S → SessionView) (view' : T → SessionView)
    (old : WholeManager (Fused S) T) (call : Call) (text : List ℕ)
    (new : WholeManager (Fused S) T) : Type 0 where
  pub speaks : call ≡ Call.Silent → ⊥
  pub told : text ≡ refused_text
  pub stands : (new ≡ old) ⊎ ((response : Response) × (has_few_words response ≡ false)
      × Performs view view' old call response new)

-- the line's call was refused or carried out, and its response is written; or memory was refused, and that is written
abbrev pub IsCallAnswer : {S T : Type 0} → (S → SessionView) → (T → SessionView) → WholeManager (Fused S) T → Received
    → List ℕ → WholeManager (Fused S) T
    → Type 0
IsCallAnswer view view' old line text new =
    ((response : Response) × Performs view view' old (call_said line) response new
    × (text ≡ answer_text new.decisions response))
    ⊎ IsRefusedCall view view' old (call_said line) text new
