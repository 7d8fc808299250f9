-- Writing a transcript answer by answer.
use Rattle.std.{specs.{Result.OnErr, Io.KnownBytes.Appends}, proofs.Common.{Result, ◌≡◌, ℕ, ◌==◌, true, Option, List}}
use Rattle.std.proofs.Common.{[], ◌∷◌, ◌++◌, length, take, drop, refl, sym, ap, ◌∙◌, subst, append_assoc, append-nil}
use Rattle.std.proofs.{Common.arith, lemmas.{List.{take_at, take-append-drop}, Grind.common_steps}}
use Rattle.std.proofs.KnownBytes.{Appends-trans, Appends-nil}
use Rattle.xa_server.specs.State.{State}
use Rattle.xa_lines.specs.Script.{lines_of, line_of}
use Rattle.xa_lines.specs.Transcript.{AppendsPrefix, IsWrittenUpTo, answer_of, state_after_line, run_text}

-- if the writer got bytes with which a whole begins, it got a prefix of that whole
prefix_from : (old new : Option (List ℕ)) (whole bytes rest : List ℕ) → Appends old new bytes → whole ≡ bytes ++ rest
    → AppendsPrefix old new whole
prefix_from old new whole bytes rest appended parts =
    let e : bytes ≡ take (length bytes) whole = sym (ap (take (length bytes)) parts
    ∙ take_at bytes rest (length bytes) refl) in
    let P : List ℕ → Type 0 = λ piece. Appends old new piece in
    (length bytes, subst P e appended)

-- if a part of the text was written, and the rest is left, a prefix was written
pub prefix_written : (old new : Option (List ℕ)) (whole left : List ℕ) → IsWrittenUpTo old new whole left
    → AppendsPrefix old new whole
prefix_written old new whole left w = prefix_from old new whole w.written left w.appended w.parts

-- if a part of the next answer was written, what was written in all is a prefix of the whole
pub prefix_more : (old now new : Option (List ℕ)) (whole answer more : List ℕ)
    → IsWrittenUpTo old now whole (answer ++ more) → AppendsPrefix now new answer
    → AppendsPrefix old new whole
prefix_more old now new whole answer more w p =
    let n = p.0 in
    let split : answer ++ more ≡ take n answer ++ (drop n answer ++ more) =
    ap (λ xs. xs ++ more) (sym (take-append-drop n answer)) ∙ append_assoc (take n answer) (drop n answer) more in
    prefix_from old new whole (w.written ++ take n answer) (drop n answer ++ more)
    (Appends-trans old now new w.written (take n answer) w.appended p.1)
    (w.parts ∙ ap (λ xs. w.written ++ xs) split ∙ sym (append_assoc w.written (take n answer) (drop n answer ++ more)))

-- once the next answer is written, what is left of the whole is what comes behind that answer
pub written_more : (old now new : Option (List ℕ)) (whole answer more : List ℕ)
    → IsWrittenUpTo old now whole (answer ++ more) → Appends now new answer
    → IsWrittenUpTo old new whole more
written_more old now new whole answer more w appended = record {
  written = w.written ++ answer;
  appended = Appends-trans old now new w.written answer w.appended appended;
  parts = w.parts ∙ sym (append_assoc w.written answer more);
}

-- before the first write, all of a text is left
pub written_none : (old : Option (List ℕ)) (whole : List ℕ) → IsWrittenUpTo old old whole whole
written_none old whole = record { written = []; appended = Appends-nil old; parts = refl }

-- what is written for lines is the answer to the first, and what is written for the others in the state after it
pub run_text-line : (state next : State) (text line rest answer : List ℕ) → lines_of text ≡ line ∷ lines_of rest
    → answer ≡ answer_of state (line_of line)
    → next ≡ state_after_line state (line_of line)
    → run_text state (lines_of text) ≡ answer ++ run_text next (lines_of rest)
unfolding run_text
run_text-line state next text line rest answer cut is after = rw (cut, is, after) refl

-- for a text of no bytes nothing is written
pub run_text-end : (state : State) (text : List ℕ) → (length text == 0) ≡ true → run_text state (lines_of text) ≡ []
unfolding run_text lines_of
run_text-end state text empty = grind (arith, common_steps)

-- if nothing is left, all was written
pub written_whole : (old new : Option (List ℕ)) (whole left : List ℕ) → IsWrittenUpTo old new whole left → left ≡ []
    → Appends old new whole
written_whole old new whole left w is = grind (arith, append-nil)

-- what is left may be replaced by an equal text
pub written_as : (old new : Option (List ℕ)) (whole left same : List ℕ) → left ≡ same → IsWrittenUpTo old new whole left
    → IsWrittenUpTo old new whole same
written_as old new whole left same e w = let P : List ℕ → Type 0 = λ xs. IsWrittenUpTo old new whole xs in subst P e w

-- what holds anyway holds if the result is an error
pub on_err : {T E : Type 0} {P : Type 0} (r : Result T E) → P → OnErr r P
on_err r p = grind (arith)
