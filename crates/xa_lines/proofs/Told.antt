-- What the sequential server told.
use Rattle.std.proofs.Common.{◌≡◌, ℕ, Bool, true, cond, nat_le, Option, Result, List, [], ◌∷◌, ◌++◌, refl, sym, ap, ◌∙◌}
use Rattle.std.proofs.{Common.{append_assoc, append-nil, arith, codes, decimal, lit<}, lemmas.Fmt.decimal_digit}
use Rattle.std.proofs.lemmas.{List.Elements.{All-head, All-tail}, Bool.Decides.nat_tests}
use Rattle.std.specs.Prelude.{All, OnOk, IfErr, IfSome}
use Rattle.xa_server.specs.State.{State, no_state}
use Rattle.xa_lines.specs.{Script.{Line, Blank, Bad, line_of}, Transcript.{answer_of, state_after_line, run_text}}
use Rattle.xa_lines.specs.{Printed.{answer_text, syntax_text}, declared.script_fault.ScriptFault.ScriptFault}
use Rattle.xa_lines.specs.{Received.{Received, Whole, TooLong, received_line}, Exchange.Exchange}
use Rattle.xa_lines.specs.{Served.{AnswersAll, AreAnswers, IsServed, AfterServing}, Statements.{said, refused_text}}
use Rattle.xa_lines.specs.Statements.{HoldsNothing, IsRefusal, IsLineAnswer, text_of, state_of, served_text, IsToldAll}
use Rattle.xa_lines.specs.Statements.{AfterFaultOfStatements, IsShort}

-- what a line is answered, and the state after it; the mark says whether memory is refused for its statement
record IsMarked (mark : Bool) (old : State) (line : Line) (text : List ℕ) (new : State) : Type 0 where
  text_is : text ≡ text_of mark old line
  state_is : new ≡ state_of mark old line

-- an answer that refuses memory for a statement and changes nothing is the one with the mark true
refusal_marked : (line : Line) (old new : State) (text : List ℕ) → IsRefusal old line text → new ≡ old
    → IsMarked true old line text new
refusal_marked line old new text r same = grind (arith)

-- the answer to a line is the one with the mark true or the one with the mark false
mark_of : (old new : State) (line : Received) (text : List ℕ) → IsLineAnswer old line text new
    → (mark : Bool) × IsMarked mark old (said line) text new
mark_of old new line text is = grind (arith, refusal_marked)

-- each of several answers has its mark, and together they are what a server tells with these marks
marks_of : (lines later : List (List ℕ)) (first last : State) (text : List ℕ)
    → AnswersAll IsLineAnswer first lines text last
    → (marks : List Bool) × (served_text marks first (lines ++ later) ≡ text ++ served_text [] last later)
unfolding AnswersAll served_text
marks_of [] later first last text a =
    ([], ap (λ s. served_text [] s later) (sym a.1) ∙ ap (λ t. t ++ served_text [] last later) (sym a.0))
marks_of (line ∷ lines) later first last text a =
    let m = mark_of first a.0 (received_line line) a.1 a.3 in
    let more = marks_of lines later a.0 last a.2 a.4 in
    let next : served_text more.0 (state_of m.0 first (said (received_line line))) (lines ++ later) ≡ a.2
    ++ served_text [] last later =
    ap (λ s. served_text more.0 s (lines ++ later)) (sym m.1.state_is) ∙ more.1 in (
      m.0 ∷ more.0,
      ap (λ t. t ++ served_text more.0 (state_of m.0 first (said (received_line line))) (lines ++ later))
          (sym m.1.text_is) ∙ ap (λ t. a.1 ++ t) next
          ∙ sym (append_assoc a.1 a.2 (served_text [] last later)) ∙ ap (λ t. t ++ served_text [] last later) (sym a.5),
    )

-- to no lines a server tells nothing
nothing_later : (state : State) → served_text [] state [] ≡ []
unfolding served_text
nothing_later state = refl

-- the answers to lines begin what a server tells, with some marks, to these lines and those that come later
part_told : (lines later : List (List ℕ)) (text : List ℕ) → AreAnswers HoldsNothing IsLineAnswer lines text
    → (marks : List Bool) × (unsaid : List ℕ) × (served_text marks no_state (lines ++ later) ≡ text ++ unsaid)
part_told lines later text a =
    let m = marks_of lines later a.first a.last text a.answers in
    (m.0, served_text [] a.last later, ap (λ s. served_text m.0 s (lines ++ later)) (sym a.begins) ∙ m.1)

-- the answers to lines, each as it may be, are what a server tells with some marks
all_told : (lines : List (List ℕ)) (text : List ℕ) → AreAnswers HoldsNothing IsLineAnswer lines text
    → (marks : List Bool) × (text ≡ served_text marks no_state lines)
all_told lines text a =
    let m = marks_of lines [] a.first a.last text a.answers in
    let whole : served_text m.0 no_state lines ≡ text =
    ap (served_text m.0 no_state) (sym (append-nil lines)) ∙ ap (λ s. served_text m.0 s (lines ++ [])) (sym a.begins)
    ∙ m.1
    ∙ ap (λ t. text ++ t) (nothing_later a.last) ∙ append-nil text in
    (m.0, sym whole)

-- what a server has told once it ended are the answers to all lines
pub served_told : (o : Option Exchange) → IfSome o (IsServed HoldsNothing IsLineAnswer) → IfSome o IsToldAll
served_told o s = grind (arith, all_told)

-- what a server has told once it ended, after Ok, are the answers to all lines
pub served_ok : {A E : Type 0} (result : Result A E) (o : Option Exchange)
    → OnOk result (IfSome o (IsServed HoldsNothing IsLineAnswer))
    → OnOk result (IfSome o IsToldAll)
served_ok result o s = grind (arith, served_told)

-- a fault of serving leaves what a fault of statements leaves
after_fault : (fault : ScriptFault) (exchange : Exchange) → AfterServing HoldsNothing IsLineAnswer fault exchange
    → AfterFaultOfStatements fault exchange
after_fault ScriptFault.Read exchange a =
    let t = all_told a.0.lines exchange.told a.0.answers in
    (record { lines = a.0.lines; begun = a.0.begun; marks = t.0; cut = a.0.cut; told = t.1 }, a.1)
after_fault ScriptFault.TooLong exchange a = a
after_fault ScriptFault.Write exchange a =
    let t = part_told a.0.lines a.0.later (exchange.given ++ a.0.unsaid) a.0.answers in (
      record {
        marks = t.0;
        unsaid = a.0.unsaid ++ t.1;
        whole = ap (served_text t.0 no_state) a.0.parts ∙ t.2
            ∙ append_assoc exchange.given a.0.unsaid t.1;
      },
      a.1,
    )
after_fault ScriptFault.NoMemory exchange a = a
after_fault ScriptFault.Full exchange a = a
after_fault ScriptFault.GateShut exchange a = a
after_fault ScriptFault.ThreadRefused exchange a = a

-- after Err a fault of serving leaves what a fault of statements leaves
pub served_fault : {A : Type 0} (result : Result A ScriptFault) (o : Option Exchange)
    → IfErr result (λ fault. IfSome o (AfterServing HoldsNothing IsLineAnswer fault))
    → IfErr result (λ fault. IfSome o (AfterFaultOfStatements fault))
served_fault result o a = grind (arith, after_fault)

-- a line that is short enough to be kept whole says what its text says
said_by : (b : Bool) (line : List ℕ) → b ≡ true → said (cond b (Whole line) TooLong) ≡ line_of line
said_by b line short = cc

-- a line that isn't too long says what it says in a script
said_short : (line : List ℕ) → IsShort line → said (received_line line) ≡ line_of line
unfolding received_line
said_short line short = grind (arith, nat_le, nat_tests, said_by)

-- to short lines, and with memory enough, a server tells what `run` writes
pub served_text-short : (state : State) (lines : List (List ℕ)) → All IsShort lines
    → served_text [] state lines ≡ run_text state lines
unfolding served_text run_text
served_text-short state [] short = refl
served_text-short state (line ∷ lines) short =
    let e = said_short line (All-head IsShort line lines short) in
    let more = served_text-short (state_after_line state (line_of line)) lines (All-tail IsShort line lines short) in
    rw e (ap (λ t. answer_of state (line_of line) ++ t) more)

-- a blank line is answered with nothing, and changes nothing
pub blank_answered : (state : State) (line : Line) (text : List ℕ) → Blank ≡ line → text ≡ []
    → (text ≡ answer_of state line) × (state ≡ state_after_line state line)
unfolding answer_of state_after_line
blank_answered state line text is none = (rw (← is) none, rw (← is) refl)

-- a bad line is answered as such, and changes nothing
pub bad_answered : (state : State) (line : Line) (text : List ℕ) → Bad ≡ line
    → text ≡ answer_text (codes "-") (syntax_text 0)
    → (text ≡ answer_of state line) × (state ≡ state_after_line state line)
unfolding answer_of state_after_line
bad_answered state line text is told = (rw (← is) told, rw (← is) refl)

-- the answer to a bad line is `- ERROR 1064 (42000): syntax fault at byte 0`
pub bad_text : codes "-" ++ codes " ERROR 1064 (42000): syntax fault at byte 0\n"
    ≡ answer_text (codes "-") (syntax_text 0)
bad_text = grind (arith, decimal, decimal_digit, lit<)

-- a session's number and the text of ERROR 1037 are the answer to a statement of that session for which memory was
-- refused
pub refused_text-parts : (who : List ℕ) (session : ℕ) → who ≡ decimal session
    → who ++ codes " ERROR 1037 (HY001): out of memory\n" ≡ refused_text session
refused_text-parts who session is = rw is (simp append_assoc)
