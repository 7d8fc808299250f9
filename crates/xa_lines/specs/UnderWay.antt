-- A conversation while it is under way.
--     IsUnderWay, UnderWay    all whole lines of what was received are answered, but for those that still wait
use Rattle.std.specs.Prelude.{◌≡◌, ◌≤◌, ℕ, length, Option, Some, None, List, [], ◌++◌, ⊤}
use Rattle.xa_lines.specs.{Received.{Received, received_line, IsCutIntoLines}, Exchange.Exchange}
use Rattle.xa_lines.specs.{Served.{AnswersAll, AreAnswers}, Script.lines_of, declared.stage.Stage.Stage}

-- but for the bytes that wait, what was received is cut into lines, all of which are answered, and a line that has
-- begun; there are no fewer bytes than reads so far
pub record IsUnderWay {S : Type 0} (Begins : S → Type 0) (Answers : S → Received → List ℕ → S → Type 0) (stage : Stage)
    (reads : ℕ) (exchange : Exchange)
    (waiting : List ℕ) (line : Received) (server : S) : Type 0 where
  pub done : List ℕ
  pub lines : List (List ℕ)
  pub begun : List ℕ
  pub first : S
  pub parts : exchange.received ≡ done ++ waiting
  pub cut : IsCutIntoLines done lines begun
  pub held : line ≡ received_line begun
  pub begins : Begins first
  pub answers : AnswersAll Answers first lines exchange.given server
  pub stage_is : exchange.stage ≡ stage
  pub counted : reads ≤ length exchange.received

-- a conversation under way, of a client that says what has passed; of another one nothing is said
abbrev pub UnderWay : {S : Type 0} → (S → Type 0) → (S → Received → List ℕ → S → Type 0) → Stage → ℕ → Option Exchange
    → List ℕ → Received → S → Type 0
UnderWay Begins Answers stage reads None waiting line server = ⊤
UnderWay Begins Answers stage reads (Some exchange) waiting line server =
    IsUnderWay Begins Answers stage reads exchange waiting line server

-- nothing waits, and the client was told all that was given
abbrev pub IsReady : {S : Type 0} → (S → Type 0) → (S → Received → List ℕ → S → Type 0) → Stage → ℕ → Exchange
    → Received → S → Type 0
IsReady Begins Answers stage reads exchange line server =
    (exchange.told ≡ exchange.given) × IsUnderWay Begins Answers stage reads exchange [] line server

-- all lines are answered, and nothing more is to be received
abbrev pub IsAllAnswered : {S : Type 0} → (S → Type 0) → (S → Received → List ℕ → S → Type 0) → Exchange → Type 0
IsAllAnswered Begins Answers exchange =
    (exchange.stage ≡ Stage.Ended) × AreAnswers Begins Answers (lines_of exchange.received) exchange.given
