-- What has passed between a server and its client.
--     WritesText, Flushes  what a write and a flush do to it
-- A client that doesn't say what has passed is promised nothing; one that doesn't say it now won't say it later.
use Rattle.std.specs.Prelude.{◌≡◌, ◌⊎◌, ℕ, ◌==◌, cond, Option, Some, None, Result, MatchResult, List, [], ◌++◌, take, ⊤}
use Rattle.xa_lines.specs.declared.stage.Stage.{Stage, TheVariants.{Open, Ended, Deaf, Mute}}

-- what has passed between a client and the program
pub record Exchange : Type 0 where
  -- what was received
  pub received : List ℕ
  -- what was given to be said
  pub given : List ℕ
  -- as much of it as was surely said: what was given before the last flush, if that didn't fail
  pub told : List ℕ
  -- whether more may be received
  pub stage : Stage

-- nothing was received, given or told yet, and the client may send
abbrev pub IsFresh : Exchange → Type 0
IsFresh exchange = (exchange.received ≡ []) × (exchange.given ≡ []) × (exchange.told ≡ []) × (exchange.stage ≡ Open)

-- n bytes were received; none only at the end
abbrev pub with_received : Exchange → ℕ → List ℕ → Exchange
with_received exchange n piece =
    record exchange { received = exchange.received ++ take n piece; stage = cond (n == 0) Ended Open }

-- a read adds what it gives to what was received; if it fails, the client is deaf from then on
abbrev pub Receives : {E : Type 0} → Option Exchange → Option Exchange → Result ℕ E → List ℕ → Type 0
Receives None None result piece = ⊤
Receives None (Some new) result piece = ⊥
Receives (Some old) None result piece = ⊥
Receives (Some old) (Some new) result piece =
    MatchResult result (λ n. new ≡ with_received old n piece) (λ _. new ≡ record old { stage = Deaf })

-- a write adds all of the text to what is given, or at a fault a prefix of it, and the server is mute from then on
abbrev pub WritesText : {A E : Type 0} → Option Exchange → Option Exchange → Result A E → List ℕ → Type 0
WritesText None None result text = ⊤
WritesText None (Some new) result text = ⊥
WritesText (Some old) None result text = ⊥
WritesText (Some old) (Some new) result text =
    MatchResult result (λ _. new ≡ record old { given = old.given ++ text })
    (λ _. (n : ℕ) × (new ≡ record old { given = old.given ++ take n text; stage = Mute }))

-- a flush says all that was given; at a fault it isn't known how much, and the server is mute from then on
abbrev pub Flushes : {A E : Type 0} → Option Exchange → Option Exchange → Result A E → Type 0
Flushes None None result = ⊤
Flushes None (Some new) result = ⊥
Flushes (Some old) None result = ⊥
Flushes (Some old) (Some new) result =
    MatchResult result (λ _. new ≡ record old { told = old.given })
    (λ _. (told : List ℕ) × (new ≡ record old { told = told; stage = Mute }))

-- neither a read nor a write has failed, so more may be said
abbrev pub CanBeTold : Exchange → Type 0
CanBeTold exchange = (exchange.stage ≡ Open) ⊎ (exchange.stage ≡ Ended)
