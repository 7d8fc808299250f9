-- What is served for what is received. A server is seen by two facts: `Begins state`, that it may begin so, and
-- `Answers old line text new`, that it may answer the line with the text, and is then so.
use Rattle.std.specs.Prelude.{◌≡◌, ◌⊎◌, ◌≤◌, ℕ, ◌-◌, ◌^◌, List, [], ◌∷◌, ◌++◌, length}
use Rattle.xa_lines.specs.{Script.lines_of, declared.{script_fault.ScriptFault.ScriptFault, stage.Stage.Stage}}
use Rattle.xa_lines.specs.{Received.{Received, received_line, IsCutIntoLines}, Exchange.{Exchange, IsFresh}}

-- from old on, the server may answer these lines with this text, one after another, and is then new
unfoldable pub AnswersAll : {S : Type 0} → (S → Received → List ℕ → S → Type 0) → S → List (List ℕ) → List ℕ → S
    → Type 0
-- the texts of lines, one after another
AnswersAll Answers old [] text new = (text ≡ []) × (new ≡ old)
AnswersAll {S} Answers old (line ∷ lines) text new =
    (mid : S) × (first : List ℕ) × (rest : List ℕ) × Answers old (received_line line) first mid
    × AnswersAll Answers mid lines rest new × (text ≡ first ++ rest)

-- the text is what a server that has just begun may answer these lines
pub record AreAnswers {S : Type 0} (Begins : S → Type 0) (Answers : S → Received → List ℕ → S → Type 0)
    (lines : List (List ℕ)) (text : List ℕ) : Type 0 where
  pub first : S
  pub last : S
  pub begins : Begins first
  pub answers : AnswersAll Answers first lines text last

-- the text answers the whole lines of what was received
pub record IsAnswerSoFar {S : Type 0} (Begins : S → Type 0) (Answers : S → Received → List ℕ → S → Type 0)
    (received text : List ℕ) : Type 0 where
  pub lines : List (List ℕ)
  pub begun : List ℕ
  pub cut : IsCutIntoLines received lines begun
  pub answers : AreAnswers Begins Answers lines text

-- more may be received: all whole lines are answered, and the client was told so
abbrev pub AwaitsMore : {S : Type 0} → (S → Type 0) → (S → Received → List ℕ → S → Type 0) → Exchange → Type 0
AwaitsMore Begins Answers exchange =
    (exchange.stage ≡ Stage.Open) × IsAnswerSoFar Begins Answers exchange.received exchange.told

-- nothing more is to be received: all lines are answered, and the client was told so
abbrev pub IsServed : {S : Type 0} → (S → Type 0) → (S → Received → List ℕ → S → Type 0) → Exchange → Type 0
IsServed Begins Answers exchange =
    (exchange.stage ≡ Stage.Ended) × (exchange.told ≡ exchange.given)
    × AreAnswers Begins Answers (lines_of exchange.received) exchange.told

-- what was given begins the answers to the lines that were received
pub record IsBegunAnswer {S : Type 0} (Begins : S → Type 0) (Answers : S → Received → List ℕ → S → Type 0)
    (received given : List ℕ) : Type 0 where
  pub lines : List (List ℕ)
  pub later : List (List ℕ)
  pub unsaid : List ℕ
  pub parts : lines_of received ≡ lines ++ later
  pub answers : AreAnswers Begins Answers lines (given ++ unsaid)

-- the answers are begun, and a write or a flush failed
abbrev pub IsCutOff : {S : Type 0} → (S → Type 0) → (S → Received → List ℕ → S → Type 0) → Exchange → Type 0
IsCutOff Begins Answers exchange =
    IsBegunAnswer Begins Answers exchange.received exchange.given × (exchange.stage ≡ Stage.Mute)

-- what a fault leaves. After a read fault all whole lines are answered, and a read has failed (Deaf), or at least
-- 2^64 - 1 bytes were received; a write fault comes only where a write or a flush failed (Mute), and the answers are
-- begun; without memory nothing has passed. No other fault occurs
abbrev pub AfterServing : {S : Type 0} → (S → Type 0) → (S → Received → List ℕ → S → Type 0) → ScriptFault → Exchange
    → Type 0
AfterServing Begins Answers ScriptFault.Read exchange =
    IsAnswerSoFar Begins Answers exchange.received exchange.told
    × ((exchange.stage ≡ Stage.Deaf) ⊎ (2 ^ 64 - 1 ≤ length exchange.received))
AfterServing Begins Answers ScriptFault.Write exchange = IsCutOff Begins Answers exchange
AfterServing Begins Answers ScriptFault.NoMemory exchange = IsFresh exchange
AfterServing Begins Answers ScriptFault.TooLong exchange = ⊥
AfterServing Begins Answers ScriptFault.Full exchange = ⊥
AfterServing Begins Answers ScriptFault.GateShut exchange = ⊥
AfterServing Begins Answers ScriptFault.ThreadRefused exchange = ⊥
