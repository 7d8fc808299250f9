-- A record was read to its end and judged, and the text was written, or writing failed: what is promised holds.
use Rattle.std.proofs.Common.{◌≡◌, ℕ, Option, Some, None, Result, Ok, Err, List, ◌++◌, IfSome, IfOk, IfErr, OnOk, OnErr}
use Rattle.std.{proofs.Common.{ap, sym, ◌∙◌, subst, append-nil}, specs.Io.KnownBytes.{Appends, Consumes, IsAtEnd}}
use Rattle.xa_lines.specs.{declared.script_fault.ScriptFault.{ScriptFault, TheVariants.Write}, Transcript.AppendsPrefix}
use Rattle.xa_server.specs.State.{State}
use Rattle.xa_record.specs.declared.{allowance.Allowance.Allowance, asked.Asked.Asked, outcome.Outcome.Outcome}
use Rattle.xa_record.specs.Judged.{IsJudged, AppendsJudged, AppendsJudgedPrefix, AfterJudgeFault}

-- what holds of the bytes that were read up to the end holds of all that the reader had, if that is known
read-whole : (P : List ℕ → Type 0) (input rest : Option (List ℕ)) (given : List ℕ) → Consumes input rest given
    → IsAtEnd rest → P given → IfSome input P
read-whole P None rest given read end p = tt
read-whole P (Some x) None given read end p = absurd read
read-whole P (Some x) (Some y) given read end p = subst P (sym (read ∙ ap (λ l. given ++ l) end ∙ append-nil given)) p

-- if all input was read and judged, and after Ok the text was written whole, what judging promises after Ok holds
pub judged-written : (base : State) (allowances : List Allowance) (asked : Asked)
    (result : Result Outcome ScriptFault) (outcome : Outcome) (text given : List ℕ)
    (input rest old new : Option (List ℕ))
    → Consumes input rest given → IsAtEnd rest → IsJudged base given allowances asked outcome text
    → IfOk result (λ o. o ≡ outcome) → OnOk result (Appends old new text)
    → IfOk result (λ o. IfSome input (λ t. AppendsJudged base allowances asked o t old new))
judged-written base allowances asked (Ok o) outcome text given input rest old new read end judged same written =
    read-whole (λ t. AppendsJudged base allowances asked o t old new) input rest given read end
    (text, subst (λ x. IsJudged base given allowances asked x text) (sym same) judged, written)
judged-written base allowances asked (Err fault) outcome text given input rest old new read end judged same written = tt

-- if all input was read and judged, and a fault can only be `Write`, after which a prefix of the text is written, what
-- judging promises after that fault holds
pub judged-faulted : (base : State) (allowances : List Allowance) (asked : Asked)
    (result : Result Outcome ScriptFault) (outcome : Outcome) (text given : List ℕ)
    (input rest old new : Option (List ℕ))
    → Consumes input rest given → IsAtEnd rest → IsJudged base given allowances asked outcome text
    → IfErr result (λ f. f ≡ Write) → OnErr result (AppendsPrefix old new text)
    → IfErr result (λ f. AfterJudgeFault base allowances asked f input old new)
judged-faulted base allowances asked (Ok o) outcome text given input rest old new read end judged is prefix = tt
judged-faulted base allowances asked (Err fault) outcome text given input rest old new read end judged is prefix =
    subst (λ f. AfterJudgeFault base allowances asked f input old new) (sym is)
    (read-whole (λ t. AppendsJudgedPrefix base allowances asked t old new) input rest given read end
    (outcome, text, judged, prefix))
