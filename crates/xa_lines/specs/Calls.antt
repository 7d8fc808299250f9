-- The calls on a reader or a writer, one after another. What a call may do is said by two facts: `passes old bytes
-- new`, that it may pass these bytes and leave the stream as new, and `fails old new`, that it may fail and leave it
-- so.
--     HasRead, HasReadAll   reads that gave a text;  which is all that the reader gives
-- A stream's fault is told only if the last call on the stream is the one that had it: a stream that failed isn't
-- called again.
use Rattle.std.specs.Prelude.{◌≡◌, ◌⊎◌, ℕ, zero, suc, ◌<◌, ◌≤◌, List, [], ◌++◌, length}
use Rattle.xa_lines.specs.declared.script_fault.ScriptFault.{ScriptFault}

-- so many calls one after another, each of which passes at least one byte, pass these bytes in all
unfoldable pub Carries : {S : Type 0} → (S → List ℕ → S → Type 0) → ℕ → S → List ℕ → S → Type 0
-- calls that pass bytes
Carries passes zero old bytes new = (new ≡ old) × (bytes ≡ [])
Carries {S} passes (suc count) old bytes new =
    (mid : S) × (before : List ℕ) × (piece : List ℕ) × Carries passes count old before mid × passes mid piece new
    × (0 < length piece)
    × (bytes ≡ before ++ piece)

-- reads gave this text, at most so many
pub record HasRead {S : Type 0} (gives : S → List ℕ → S → Type 0) (reads : ℕ) (old : S) (text : List ℕ)
    (new : S) : Type 0 where
  pub count : ℕ
  pub within : count ≤ reads
  pub calls : Carries gives count old text new

-- reads gave this text, and the next of them gave nothing: that is the end
pub record HasReadAll {S : Type 0} (gives : S → List ℕ → S → Type 0) (reads : ℕ) (old : S) (text : List ℕ)
    (new : S) : Type 0 where
  pub count : ℕ
  pub last : S
  pub within : count < reads
  pub calls : Carries gives count old text last
  pub end : gives last [] new

-- reads gave no more than so many bytes, and the next of them failed
pub record FailsReading {S : Type 0} (gives : S → List ℕ → S → Type 0) (fails : S → S → Type 0) (reads most : ℕ)
    (old new : S) : Type 0 where
  pub count : ℕ
  pub text : List ℕ
  pub last : S
  pub within : count < reads
  pub short : length text ≤ most
  pub calls : Carries gives count old text last
  pub failed : fails last new

-- why a text of at most so many bytes wasn't read to its end, in at most so many reads: a read failed, or all reads
-- were spent; it is longer; or there was no memory, though all reads gave something and it isn't known to be longer
abbrev pub StopsReading : {S : Type 0} → (S → List ℕ → S → Type 0) → (S → S → Type 0) → (reads most : ℕ) → ScriptFault
    → S → S → Type 0
StopsReading gives fails reads most ScriptFault.Read old new =
    FailsReading gives fails reads most old new ⊎ ((text : List ℕ) × (length text ≤ most)
    × Carries gives reads old text new)
StopsReading gives fails reads most ScriptFault.TooLong old new =
    (text : List ℕ) × (most < length text) × HasRead gives reads old text new
StopsReading gives fails reads most ScriptFault.NoMemory old new =
    (text : List ℕ) × (length text ≤ most) × HasRead gives reads old text new
StopsReading gives fails reads most ScriptFault.Write old new = ⊥
StopsReading gives fails reads most ScriptFault.Full old new = ⊥
StopsReading gives fails reads most ScriptFault.GateShut old new = ⊥
StopsReading gives fails reads most ScriptFault.ThreadRefused old new = ⊥

-- writes took these bytes, and none failed
abbrev pub HasWritten : {S : Type 0} → (S → List ℕ → S → Type 0) → S → List ℕ → S → Type 0
HasWritten takes old bytes new = (count : ℕ) × Carries takes count old bytes new

-- writes took the whole but for what is left of it, and none failed
pub record IsWrittenBut {S : Type 0} (takes : S → List ℕ → S → Type 0) (old : S) (whole left : List ℕ)
    (new : S) : Type 0 where
  pub written : List ℕ
  pub calls : HasWritten takes old written new
  pub parts : whole ≡ written ++ left

-- writes took a part of the whole, and the next of them failed or took nothing
pub record StopsWriting {S : Type 0} (takes : S → List ℕ → S → Type 0) (refuses : S → S → Type 0) (old : S)
    (whole : List ℕ) (new : S) : Type 0 where
  pub left : List ℕ
  pub last : S
  pub calls : IsWrittenBut takes old whole left last
  pub refused : refuses last new ⊎ takes last [] new

-- how a script's text is written: all of the script was read, and all of its text was written, by calls none of which
-- failed
pub record Completes {R W : Type 0} (gives : R → List ℕ → R → Type 0) (takes : W → List ℕ → W → Type 0) (reads : ℕ)
    (IsText : List ℕ → List ℕ → Type 0) (old new : R) (before after : W) : Type 0 where
  pub script : List ℕ
  pub text : List ℕ
  pub read : HasReadAll gives reads old script new
  pub is_text : IsText script text
  pub written : HasWritten takes before text after

-- the script was read, and a write of its text failed
pub record FailsWriting {R W : Type 0} (gives : R → List ℕ → R → Type 0) (takes : W → List ℕ → W → Type 0)
    (refuses : W → W → Type 0) (reads : ℕ)
    (IsText : List ℕ → List ℕ → Type 0) (old new : R) (before after : W) : Type 0 where
  pub script : List ℕ
  pub text : List ℕ
  pub read : HasReadAll gives reads old script new
  pub is_text : IsText script text
  pub stops : StopsWriting takes refuses before text after

-- why a script's text wasn't written: the script wasn't read; or it was, and the fault is one of what was made of it;
-- or a write failed. The writer wasn't called before the text was made
abbrev pub Stops : {R W : Type 0} → (R → List ℕ → R → Type 0) → (R → R → Type 0) → (W → List ℕ → W → Type 0)
    → (W → W → Type 0) → (reads most : ℕ)
    → (List ℕ → List ℕ → Type 0) → (List ℕ → ScriptFault → Type 0) → ScriptFault → (old new : R) → (before after : W)
    → Type 0
Stops gives fails takes refuses reads most IsText IsOfText fault old new before after =
    (StopsReading gives fails reads most fault old new × (after ≡ before))
    ⊎ (((script : List ℕ) × HasReadAll gives reads old script new × IsOfText script fault × (after ≡ before))
    ⊎ ((fault ≡ ScriptFault.Write) × FailsWriting gives takes refuses reads IsText old new before after))
