-- A record that was read whole, and judged.
use Rattle.std.proofs.Common.{◌≡◌, ℕ, Option, Some, None, Result, Ok, Err, List, inl, inr, subst}
use Rattle.std.specs.{Prelude.{IfSome, IfOk, IfErr}, Io.KnownBytes.{Consumes, IsAtEnd}}
use Rattle.xa_lines.specs.{declared.script_fault.ScriptFault.ScriptFault, Transcript.IsOfReading}
use Rattle.xa_server.specs.State.{State}
use Rattle.xa_record.specs.declared.{allowance.Allowance.Allowance, asked.Asked.Asked}
use Rattle.xa_record.specs.Judged.{AppendsJudged, AppendsJudgedPrefix, AfterJudgeFault}
use Rattle.xa_script.{specs.Status.AppendsVerdict, proofs.{Allowed.read_whole, Audited.kept_all}}

-- if a reader gave these bytes and is at its end, `input`, which had the same bytes, has these and no more
pub all_read : (input first rest : Option (List ℕ)) (given : List ℕ) → first ≡ input → Consumes first rest given
    → IsAtEnd rest → (left : Option (List ℕ)) × Consumes input left given × IsAtEnd left
all_read input first rest given is read end =
    (rest, subst (λ (from : Option (List ℕ)). Consumes from rest given) is read, end)

-- a verdict on the bytes that were read up to the end is one on all that the reader had
pub judged_whole : (base : State) (allowances : List Allowance) (asked : Asked) (result : Result ℕ ScriptFault)
    (given : List ℕ) (input rest old new : Option (List ℕ)) → Consumes input rest given → IsAtEnd rest
    → IfOk result (λ status. AppendsVerdict base allowances asked status (Some given) old new)
    → IfOk result (λ status. AppendsVerdict base allowances asked status input old new)
judged_whole base allowances asked (Err fault) given input rest old new read end verdict = tt
judged_whole base allowances asked (Ok status) given input rest old new read end verdict = (
  verdict.0,
  verdict.1,
  read_whole (λ text. AppendsJudged base allowances asked verdict.0 text old new) input rest given read end
      verdict.2,
)

-- what a fault of judging the bytes that were read up to the end leaves, it leaves of all that the reader had
pub faulted_whole : (base : State) (allowances : List Allowance) (asked : Asked) (result : Result ℕ ScriptFault)
    (given : List ℕ) (input rest old new : Option (List ℕ)) → Consumes input rest given → IsAtEnd rest
    → IfErr result (λ fault. AfterJudgeFault base allowances asked fault (Some given) old new)
    → IfErr result (λ fault. AfterJudgeFault base allowances asked fault input old new)
faulted_whole base allowances asked (Ok status) given input rest old new read end left = tt
faulted_whole base allowances asked (Err ScriptFault.Read) given input rest old new read end left = left
faulted_whole base allowances asked (Err ScriptFault.TooLong) given input rest old new read end left = left
faulted_whole base allowances asked (Err ScriptFault.Write) given input rest old new read end left =
    read_whole (λ text. AppendsJudgedPrefix base allowances asked text old new) input rest given read end left
faulted_whole base allowances asked (Err ScriptFault.NoMemory) given input rest old new read end left = left
faulted_whole base allowances asked (Err ScriptFault.Full) given input rest old new read end left = left
faulted_whole base allowances asked (Err ScriptFault.GateShut) given input rest old new read end left = left
faulted_whole base allowances asked (Err ScriptFault.ThreadRefused) given input rest old new read end left = left

-- a writer that is as it was is what a fault of reading leaves (`AfterJudgeFault`)
pub unread : (base : State) (allowances : List Allowance) (asked : Asked) (fault : ScriptFault)
    (input contents : Option (List ℕ)) → IsOfReading fault
    → AfterJudgeFault base allowances asked fault input contents contents
unread base allowances asked ScriptFault.Read input contents of = kept_all contents
unread base allowances asked ScriptFault.TooLong input contents of = kept_all contents
unread base allowances asked ScriptFault.NoMemory input contents of = kept_all contents
unread base allowances asked ScriptFault.Write input contents (inl e) = cc
unread base allowances asked ScriptFault.Write input contents (inr (inl e)) = cc
unread base allowances asked ScriptFault.Write input contents (inr (inr e)) = cc
unread base allowances asked ScriptFault.Full input contents (inl e) = cc
unread base allowances asked ScriptFault.Full input contents (inr (inl e)) = cc
unread base allowances asked ScriptFault.Full input contents (inr (inr e)) = cc
unread base allowances asked ScriptFault.GateShut input contents (inl e) = cc
unread base allowances asked ScriptFault.GateShut input contents (inr (inl e)) = cc
unread base allowances asked ScriptFault.GateShut input contents (inr (inr e)) = cc
unread base allowances asked ScriptFault.ThreadRefused input contents (inl e) = cc
unread base allowances asked ScriptFault.ThreadRefused input contents (inr (inl e)) = cc
unread base allowances asked ScriptFault.ThreadRefused input contents (inr (inr e)) = cc
