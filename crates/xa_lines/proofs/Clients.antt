-- The lemmas of `Under`, for a client of which it is known what has passed (`Some`), or isn't (`None`): then nothing is
-- to be shown. A client can't change from one to the other.
use Rattle.std.proofs.Common.{◌≡◌, ℕ, ◌==◌, ◌≤◌, ◌+◌, ◌-◌, ◌^◌, true, false, Option, Some, None, Result, Ok, Err, List}
use Rattle.std.proofs.{Common.{[], ◌∷◌, length, take, sym, subst, arith}, lemmas.Bool.Decides.nat_tests}
use Rattle.std.{proofs.lemmas.Grind.common_steps, specs.Prelude.{OnOk, OnErr, IfErr, IfSome}}
use Rattle.xa_lines.specs.Received.{Received, Whole, longer, is_nothing}
use Rattle.xa_lines.specs.Exchange.{Exchange, IsFresh, CanBeTold, WritesText, Flushes, Receives}
use Rattle.xa_lines.specs.Served.{AwaitsMore, IsServed, IsCutOff, AfterServing}
use Rattle.xa_lines.specs.UnderWay.{IsUnderWay, UnderWay, IsReady, IsAllAnswered}
use Rattle.xa_lines.specs.declared.{stage.Stage.TheVariants.{Open, Ended}, script_fault.ScriptFault.ScriptFault}
use Rattle.xa_lines.proofs.Under as under

-- if a text was given without a fault to a client that more may be said to, more may still be said to it
pub told_on : {A : Type 0} (E : Type 0) (x : A) (old new : Option Exchange) (text : List ℕ)
    → WritesText {E = E} old new (Ok x) text → IfSome old CanBeTold
    → IfSome new CanBeTold
told_on E x old new text written can = grind (arith)

module _ {S : Type 0} (Begins : S → Type 0) (Answers : S → Received → List ℕ → S → Type 0) where
  -- the server answered the line, and this is the result of giving the answer to the client
  abbrev pub Answered : {A E : Type 0} → Option Exchange → Option Exchange → Result A E → Received → S → S → Type 0
  Answered old new result line server after =
      (answer : List ℕ) × Answers server line answer after × WritesText old new result answer

  -- what was given begins the answers, and saying it failed
  abbrev pub IsBegunAt : Option Exchange → Type 0
  IsBegunAt o = IfSome o (IsCutOff Begins Answers)

  -- a line feed ended the line, and its answer was given: the conversation is under way without that byte, with no
  -- byte of the next line
  pub feed_ok : {A E : Type 0} (old new : Option Exchange) (result : Result A E) (byte : ℕ) (line next : Received)
      (server after : S) → byte ≡ 10 → next ≡ Whole []
      → Answered old new result line server after
      → OnOk result ((reads : ℕ) (waiting : List ℕ) → UnderWay Begins Answers Open reads old
      (byte ∷ waiting) line server
      → UnderWay Begins Answers Open reads new waiting next after)
  feed_ok None None (Ok x) byte line next server after feed cleared t = λ reads waiting u. tt
  feed_ok None (Some new) (Ok x) byte line next server after feed cleared t = absurd t.2
  feed_ok (Some old) None (Ok x) byte line next server after feed cleared t = absurd t.2
  feed_ok (Some old) (Some new) (Ok x) byte line next server after feed cleared t = λ reads waiting u.
      (let P : ℕ → Type 0 = λ b. IsUnderWay Begins Answers Open reads old (b ∷ waiting) line server in
      let Q : Received → Type 0 = λ l. IsUnderWay Begins Answers Open reads new waiting l after in
      subst Q (sym cleared) (under.answered Begins Answers Open reads old new waiting t.0 line server after t.2 t.1
      (subst P feed u)))
  feed_ok old new (Err e) byte line next server after feed cleared t = tt

  -- a line feed ended the line, and giving its answer failed: the answers are begun, and the conversation is cut off
  pub feed_err : {A E : Type 0} (old new : Option Exchange) (result : Result A E) (byte : ℕ) (line : Received)
      (server after : S) → byte ≡ 10
      → Answered old new result line server after
      → OnErr result ((reads : ℕ) (waiting : List ℕ) → UnderWay Begins Answers Open reads old
      (byte ∷ waiting) line server → IsBegunAt new)
  feed_err None None (Err e) byte line server after feed t = λ reads waiting u. tt
  feed_err None (Some new) (Err e) byte line server after feed t = absurd t.2
  feed_err (Some old) None (Err e) byte line server after feed t = absurd t.2
  feed_err (Some old) (Some new) (Err e) byte line server after feed t = λ reads waiting u.
      (let P : ℕ → Type 0 = λ b. IsUnderWay Begins Answers Open reads old (b ∷ waiting) line server in
      under.begun_answer Begins Answers Open reads old new waiting t.0 t.2.0 line server after t.2.1 t.1
      (subst P feed u))
  feed_err old new (Ok x) byte line server after feed t = tt

  -- a byte that is no line feed was put to the line: the conversation is under way without that byte waiting
  pub put_ok : (o : Option Exchange) (byte : ℕ) (line next : Received) (server : S) → (byte == 10) ≡ false
      → next ≡ longer line byte
      → (reads : ℕ) (waiting : List ℕ)
      → UnderWay Begins Answers Open reads o (byte ∷ waiting) line server
      → UnderWay Begins Answers Open reads o waiting next server
  put_ok None byte line next server other is reads waiting u = tt
  put_ok (Some e) byte line next server other is reads waiting u =
      under.put Begins Answers Open reads e byte waiting line next server other is u

  -- after the client's end the last line, which has no line feed, was answered, and the answer given: all lines are
  -- answered
  pub last_ok : {A E : Type 0} (old new : Option Exchange) (result : Result A E) (line : Received) (server after : S)
      → is_nothing line ≡ false
      → Answered old new result line server after
      → OnOk result ((reads : ℕ) → UnderWay Begins Answers Ended reads old [] line server
      → IfSome new (IsAllAnswered Begins Answers))
  last_ok None None (Ok x) line server after some t = λ reads u. tt
  last_ok None (Some new) (Ok x) line server after some t = absurd t.2
  last_ok (Some old) None (Ok x) line server after some t = absurd t.2
  last_ok (Some old) (Some new) (Ok x) line server after some t =
      λ reads u. under.end_answered Begins Answers reads old new t.0 line server after some t.2 t.1 u
  last_ok old new (Err e) line server after some t = tt

  -- after the client's end giving the answer to the last line failed: the conversation is cut off
  pub last_err : {A E : Type 0} (old new : Option Exchange) (result : Result A E) (line : Received) (server after : S)
      → is_nothing line ≡ false
      → Answered old new result line server after
      → OnErr result ((reads : ℕ) → UnderWay Begins Answers Ended reads old [] line server → IsBegunAt new)
  last_err None None (Err e) line server after some t = λ reads u. tt
  last_err None (Some new) (Err e) line server after some t = absurd t.2
  last_err (Some old) None (Err e) line server after some t = absurd t.2
  last_err (Some old) (Some new) (Err e) line server after some t =
      λ reads u. under.end_begun Begins Answers reads old new t.0 t.2.0 line server after some t.2.1 t.1 u
  last_err old new (Ok x) line server after some t = tt

  -- after the client's end nothing of a further line has come: all lines are answered
  pub last_nothing : (o : Option Exchange) (line : Received) (server : S) → is_nothing line ≡ true → (reads : ℕ)
      → UnderWay Begins Answers Ended reads o [] line server → IfSome o (IsAllAnswered Begins Answers)
  last_nothing None line server none reads u = tt
  last_nothing (Some e) line server none reads u = under.end_nothing Begins Answers reads e line server none u

  -- a conversation that is ready for more
  abbrev pub Ready : ℕ → Option Exchange → Received → S → Type 0
  Ready reads o line server = IfSome o (λ exchange. IsReady Begins Answers Open reads exchange line server)

  -- a conversation in which nothing has passed is ready for more
  pub ready_fresh : (o : Option Exchange) (line : Received) (server : S) → IfSome o IsFresh → line ≡ Whole []
      → Begins server → Ready 0 o line server
  ready_fresh None line server fresh nothing begins = tt
  ready_fresh (Some e) line server fresh nothing begins = under.fresh Begins Answers e line server fresh nothing begins

  -- in a conversation that is ready for more, all whole lines are answered, and the client was told so
  pub ready_ok : (reads : ℕ) (o : Option Exchange) (line : Received) (server : S) → Ready reads o line server
      → IfSome o (AwaitsMore Begins Answers)
  ready_ok reads o line server r = grind (arith, common_steps, nat_tests)

  -- a read failed in a conversation that was ready for more: it is left as a fault Read leaves it
  pub receive_err : {E : Type 0} (reads : ℕ) (old new : Option Exchange) (e : E) (piece : List ℕ) (line : Received)
      (server : S) → Receives old new (Err e) piece
      → Ready reads old line server → IfSome new (AfterServing Begins Answers ScriptFault.Read)
  receive_err reads old new e piece line server h r = grind (arith, common_steps, nat_tests)

  -- a read gave nothing: the client has ended, and no byte waits
  pub receive_end : (E : Type 0) (reads : ℕ) (old new : Option Exchange) (n : ℕ) (piece : List ℕ) (line : Received)
      (server : S) → (n == 0) ≡ true
      → Receives {E = E} old new (Ok n) piece → Ready reads old line server
      → UnderWay Begins Answers Ended reads new [] line server
  receive_end E reads old new n piece line server is h r = grind (arith, common_steps, nat_tests)

  -- a read gave bytes: there is one read more, and these bytes wait
  pub receive_some : (E : Type 0) (reads : ℕ) (old new : Option Exchange) (n : ℕ) (piece : List ℕ) (line : Received)
      (server : S) → (n == 0) ≡ false
      → n ≤ length piece → Receives {E = E} old new (Ok n) piece → Ready reads old line server
      → UnderWay Begins Answers Open (reads + 1) new (take n piece) line server
  receive_some E reads old new n piece line server is within h r = grind (arith, common_steps, nat_tests)

  -- all was flushed when no byte waited: the conversation is ready for more
  pub flush_ok : {A : Type 0} (E : Type 0) (reads : ℕ) (old new : Option Exchange) (x : A) (line : Received)
      (server : S) → Flushes {E = E} old new (Ok x)
      → UnderWay Begins Answers Open reads old [] line server → Ready reads new line server
  flush_ok E reads old new x line server f u = grind (arith)

  -- a flush failed when no byte waited: the conversation is cut off
  pub flush_err : (A : Type 0) {E : Type 0} (reads : ℕ) (old new : Option Exchange) (e : E) (line : Received)
      (server : S) → Flushes {A = A} old new (Err e)
      → UnderWay Begins Answers Open reads old [] line server → IsBegunAt new
  flush_err A reads None None e line server f u = tt
  flush_err A reads None (Some new) e line server f u = absurd f
  flush_err A reads (Some old) None e line server f u = absurd f
  flush_err A reads (Some old) (Some new) e line server f u =
      under.unflushed Begins Answers Open reads old new f.0 line server f.1 u

  -- all lines were answered, and the last flush succeeded: the client is served
  pub served_ok : {A E : Type 0} (old new : Option Exchange) (result : Result A E) → Flushes old new result
      → IfSome old (IsAllAnswered Begins Answers)
      → OnOk result (IfSome new (IsServed Begins Answers))
  served_ok old new result f all = grind (arith)

  -- all lines were answered, and the last flush failed: the conversation is left as that fault, Write, leaves it
  pub served_err : {A : Type 0} (old new : Option Exchange) (result : Result A ScriptFault)
      → IfErr result (λ fault. fault ≡ ScriptFault.Write) → Flushes old new result
      → IfSome old (IsAllAnswered Begins Answers)
      → IfErr result (λ fault. IfSome new (AfterServing Begins Answers fault))
  served_err old new (Ok x) of_write f all = tt
  served_err None None (Err e) of_write f all = tt
  served_err None (Some new) (Err e) of_write f all = absurd f
  served_err (Some old) None (Err e) of_write f all = absurd f
  served_err (Some old) (Some new) (Err e) of_write f all =
      let P : ScriptFault → Type 0 = λ fault. AfterServing Begins Answers fault new in
      subst P (sym of_write) (under.unserved Begins Answers old new f.0 f.1 all)

  -- a conversation that is cut off is as a fault Write leaves it
  pub write_fault : (o : Option Exchange) (fault : ScriptFault) → fault ≡ ScriptFault.Write → IsBegunAt o
      → IfSome o (AfterServing Begins Answers fault)
  write_fault o fault is begun = grind (arith)

  -- after 2^64-1 reads a conversation that is ready for more is as a fault Read leaves it
  pub spent : (reads : ℕ) (o : Option Exchange) (line : Received) (server : S) → 2 ^ 64 - 1 ≤ reads
      → Ready reads o line server
      → IfSome o (AfterServing Begins Answers ScriptFault.Read)
  spent reads o line server all r = grind (arith, common_steps, nat_tests)

  -- a conversation that is cut off is as a fault Write leaves it that is passed on
  pub passed_on : {A : Type 0} (o : Option Exchange) (answer : Result A ScriptFault) (passed fault : ScriptFault)
      → answer ≡ Err passed → passed ≡ fault
      → fault ≡ ScriptFault.Write → IsBegunAt o → IfErr answer (λ f. IfSome o (AfterServing Begins Answers f))
  passed_on {A} o answer passed fault is same of_write begun = grind (arith, write_fault)
