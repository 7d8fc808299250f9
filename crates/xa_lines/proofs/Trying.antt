-- Tries to write a text.
use Rattle.std.proofs.Common.{ℕ, ◌+◌, ◌-◌, List, [], length, take, drop, refl, sym, arith}
use Rattle.std.proofs.{lemmas.List.{take_rest, take-append-drop}, Math.Seq.take-add}
use Rattle.xa_lines.specs.Trying.{IsTry, Tries, IsLastTry, StopsTrying}

module _ {S : Type 0} (takes : S → List ℕ → S → Type 0) (interrupts : S → S → Type 0) where
  -- without a write no byte is taken, and the stream stays as it is
  pub tried_none : (stream : S) → Tries takes interrupts 0 stream [] stream
  unfolding Tries
  tried_none stream = (refl, refl)

  -- if tries took the first bytes of a text, and one more takes some of the rest, or is interrupted and takes none,
  -- all of them took the first bytes and those
  pub tried_next : (count : ℕ) (old mid new : S) (text : List ℕ) (written n : ℕ)
      → Tries takes interrupts count old (take written text) mid
      → IsTry takes interrupts mid (take n (take (length text - written) (drop written text))) new
      → Tries takes interrupts (count + 1) old (take (written + n) text) new
  unfolding Tries
  tried_next count old mid new text written n before now = grind (arith, take-add, take_rest)

  -- if writes took the first bytes of a text, and the last one failed or took nothing, or all tries are spent, trying
  -- stopped after these bytes (`StopsTrying`)
  pub tried_part : (count : ℕ) (old last new : S) (text : List ℕ) (written : ℕ)
      → (refuses : S → S → Type 0) → Tries takes interrupts count old (take written text) last
      → IsLastTry takes refuses count last new → StopsTrying takes interrupts refuses old text new
  tried_part count old last new text written refuses calls stopped = record {
    count = count;
    last = last;
    taken = take written text;
    left = drop written text;
    calls = calls;
    parts = sym (take-append-drop written text);
    stopped = stopped;
  }
