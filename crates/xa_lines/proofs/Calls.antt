-- Calls on a reader or a writer, one after another.
use Rattle.std.proofs.Common.{◌≡◌, ℕ, zero, suc, ◌+◌, ◌-◌, ◌<◌, ◌≤◌, List, [], ◌++◌, length, take, drop, refl, sym, ap}
use Rattle.std.proofs.Common.{◌∙◌, subst, append_assoc, append-nil, inl, inr, arith}
use Rattle.std.proofs.{lemmas.List.{length-take, take_rest, take-append-drop}, Math.Seq.take-add}
use Rattle.std.specs.Prelude.{Result, Ok, Err, IfErr, OnOk, MatchResult}
use Rattle.xa_lines.specs.Calls.{Carries, HasRead, HasReadAll, FailsReading, StopsReading, HasWritten, IsWrittenBut}
use Rattle.xa_lines.specs.{Calls.{StopsWriting, Completes, Stops}, Limits.script_reads}
use Rattle.xa_lines.specs.Transcript.{transcript, StopsAnswering, StopsRun}
use Rattle.xa_lines.specs.declared.script_fault.ScriptFault.{ScriptFault, TheVariants.{Read, Write, NoMemory}}

module _ {S : Type 0} (passes : S → List ℕ → S → Type 0) where
  -- without a call no byte passes, and the stream stays as it is
  pub carries_none : (stream : S) → Carries passes 0 stream [] stream
  unfolding Carries
  carries_none stream = (refl, refl)

  -- without a call an empty text passes, and the stream stays as it is
  pub carries_empty : (stream : S) (bytes : List ℕ) → bytes ≡ [] → Carries passes 0 stream bytes stream
  unfolding Carries
  carries_empty stream bytes none = (refl, none)

  -- if calls pass bytes, and one more passes a piece of at least one byte, all of them pass the bytes and then that
  -- piece
  pub carries_more : (count : ℕ) (old mid new : S) (before piece bytes : List ℕ) → Carries passes count old before mid
      → passes mid piece new
      → 0 < length piece → bytes ≡ before ++ piece → Carries passes (count + 1) old bytes new
  unfolding Carries
  carries_more count old mid new before piece bytes done now also is = grind (arith)

  -- if calls pass bytes, and then others pass bytes, all of them pass the first bytes and then the others
  pub carries_joined : (first second : ℕ) (old mid new : S) (before after : List ℕ)
      → Carries passes first old before mid → Carries passes second mid after new
      → Carries passes (first + second) old (before ++ after) new
  unfolding Carries
  carries_joined first zero old mid new before after done now =
      let none : first ≡ first + 0 = omega arith in
      let P : S → Type 0 = λ s. Carries passes first old before s in
      let Q : List ℕ → Type 0 = λ bytes. Carries passes first old bytes new in
      let R : ℕ → Type 0 = λ n. Carries passes n old (before ++ after) new in
      subst R none (subst Q (sym (ap (λ xs. before ++ xs) now.1 ∙ append-nil before)) (subst P (sym now.0) done))
  carries_joined first (suc second) old mid new before after done now =
      let rest = carries_joined first second old mid now.0 before now.1 done now.3 in
      let next : suc (first + second) ≡ first + suc second = omega arith in
      let P : ℕ → Type 0 = λ n. Carries passes n old (before ++ after) new in
      subst P next (
        now.0,
        before ++ now.1,
        now.2,
        rest,
        now.4,
        now.5,
        ap (λ xs. before ++ xs) now.6
            ∙ sym (append_assoc before now.1 now.2),
      )

  -- if reads gave a text, and one more gives a piece of at least one byte, all of them give the text and that piece
  pub read_more : (count n : ℕ) (old mid new : S) (text piece : List ℕ) → 0 < n → n ≤ length piece
      → Carries passes count old text mid
      → passes mid (take n piece) new → Carries passes (count + 1) old (text ++ take n piece) new
  read_more count n old mid new text piece is within calls now = grind (arith, carries_more, length-take)

  -- if the first bytes of a text were written, and a write takes at least one of the rest, the first bytes up to there
  -- are written
  pub written_next : (old mid new : S) (bytes : List ℕ) (written n : ℕ) → HasWritten passes old (take written bytes) mid
      → passes mid (take n (take (length bytes - written) (drop written bytes))) new → 0 < n
      → n ≤ length (take (length bytes - written) (drop written bytes))
      → HasWritten passes old (take (written + n) bytes) new
  written_next old mid new bytes written n before now some within =
      let piece = take n (take (length bytes - written) (drop written bytes)) in
      let longer : 0 < length (take n (take (length bytes - written) (drop written bytes))) =
      omega (arith, length-take n (take (length bytes - written) (drop written bytes))) in
      let is : take (written + n) bytes ≡ take written bytes ++ piece =
      take-add written n bytes ∙ ap (λ xs. take written bytes ++ take n xs) (sym (take_rest bytes written)) in (
        before.0 + 1,
        carries_more before.0 old mid new (take written bytes) piece
            (take (written + n) bytes) before.1 now longer is,
      )

  -- before the first write the whole is left
  pub written_none : (stream : S) (whole : List ℕ) → IsWrittenBut passes stream whole whole stream
  written_none stream whole = record { written = []; calls = (0, carries_none stream); parts = refl }

  -- if the first bytes of a text were written, the others are left
  pub written_front : (old new : S) (bytes : List ℕ) (written : ℕ) → HasWritten passes old (take written bytes) new
      → IsWrittenBut passes old bytes (drop written bytes) new
  written_front old new bytes written calls = grind (arith, take-append-drop)

  -- what is left may be replaced by an equal text
  pub written_so : (old new : S) (whole left same : List ℕ) → left ≡ same → IsWrittenBut passes old whole left new
      → IsWrittenBut passes old whole same new
  written_so old new whole left same e w = grind (arith)

  -- if the next answer was written whole, what is left is what comes behind it
  pub written_then : (old mid new : S) (whole answer more : List ℕ) → IsWrittenBut passes old whole (answer ++ more) mid
      → HasWritten passes mid answer new
      → IsWrittenBut passes old whole more new
  written_then old mid new whole answer more w now = grind (arith, append_assoc, carries_joined)

  -- if writing the next answer stopped at a fault, so did writing the whole
  pub stopped_then : (refuses : S → S → Type 0) (old mid new : S) (whole answer more : List ℕ)
      → IsWrittenBut passes old whole (answer ++ more) mid
      → StopsWriting passes refuses mid answer new → StopsWriting passes refuses old whole new
  stopped_then refuses old mid new whole answer more w stops =
      let same : answer ++ more ≡ stops.calls.written ++ (stops.left ++ more) =
      ap (λ xs. xs ++ more) stops.calls.parts ∙ append_assoc stops.calls.written stops.left more in
      let before = written_so old mid whole (answer ++ more) (stops.calls.written ++ (stops.left ++ more)) same w in
      record {
        left = stops.left ++ more;
        last = stops.last;
        calls = written_then old mid stops.last whole stops.calls.written (stops.left ++ more) before stops.calls.calls;
        refused = stops.refused;
      }

  -- if nothing is left, all was written
  pub written_all : (old new : S) (whole left : List ℕ) → IsWrittenBut passes old whole left new → left ≡ []
      → HasWritten passes old whole new
  written_all old new whole left w is = grind (arith, append-nil)

-- after reads of no more bytes than are allowed, a fault NoMemory is one for which reading may stop
pub stops_for_memory : {A S : Type 0} (gives : S → List ℕ → S → Type 0) (fails : S → S → Type 0) (reads most : ℕ)
    (old new : S) (result : Result A ScriptFault)
    (fault : ScriptFault) (text : List ℕ) → result ≡ Err fault → fault ≡ NoMemory → length text ≤ most
    → HasRead gives reads old text new
    → IfErr result (λ told. StopsReading gives fails reads most told old new)
stops_for_memory {A} gives fails reads most old new result fault text is memory short read = grind (arith)

-- after a read that failed, a fault Read is one for which reading may stop
pub stops_for_fault : {A S : Type 0} (gives : S → List ℕ → S → Type 0) (fails : S → S → Type 0) (reads most : ℕ)
    (old new : S) (result : Result A ScriptFault)
    (passed fault : ScriptFault) → result ≡ Err passed → passed ≡ fault → fault ≡ Read
    → FailsReading gives fails reads most old new
    → IfErr result (λ told. StopsReading gives fails reads most told old new)
stops_for_fault {A} gives fails reads most old new result passed fault is same of_read failed = grind (arith)

-- if a result is an Err, it is enough that what is promised after an Err holds
pub writing_stopped : {A E : Type 0} (P : A → Type 0) (Q : Type 0) (result : Result A E) (fault : E)
    → result ≡ Err fault → Q → MatchResult result P (λ _. Q)
writing_stopped {A} {E} P Q result fault is stops = grind (arith)

-- what holds of a fault holds of it where it is passed on
pub passed_fault : {A : Type 0} (P : ScriptFault → Type 0) (result : Result A ScriptFault) (passed fault : ScriptFault)
    → result ≡ Err passed → passed ≡ fault
    → P fault → IfErr result P
passed_fault {A} P result passed fault is same holds = grind (arith)

-- what holds of the fault Write holds of a fault that is Write
write_is : (P : ScriptFault → Type 0) (fault : ScriptFault) → fault ≡ Write → P Write → P fault
write_is P fault is holds = subst P (sym is) holds

module _ {W : Type 0} (takes : W → List ℕ → W → Type 0) (refuses : W → W → Type 0) where
  -- if writing answers stopped at a write that failed, a fault Write that is passed on is why
  pub answers_stopped : {A : Type 0} (result : Result A ScriptFault) (passed fault : ScriptFault) (old new : W)
      (whole : List ℕ) → result ≡ Err passed
      → passed ≡ fault → fault ≡ Write → StopsWriting takes refuses old whole new
      → IfErr result (λ told. StopsAnswering takes refuses told old whole new)
  answers_stopped result passed fault old new whole is same of_write stops = grind (arith, passed_fault, write_is)

  module _ {R : Type 0} (gives : R → List ℕ → R → Type 0) (fails : R → R → Type 0) where
    -- a run of a script that was read stops as the writing of its answers does
    pub run_stopped : {A : Type 0} (result : Result A ScriptFault) (script : List ℕ) (old new : R) (before after : W)
        → HasReadAll gives script_reads old script new → IfErr result
        (λ told. StopsAnswering takes refuses told before (transcript script) after)
        → IfErr result (λ told. StopsRun gives fails takes refuses told old new before after)
    run_stopped (Ok x) script old new before after read stops = tt
    run_stopped (Err fault) script old new before after read stops = inr (script, read, stops)

    module _ (reads most : ℕ) (IsText : List ℕ → List ℕ → Type 0) (IsOfText : List ℕ → ScriptFault → Type 0) where
      -- after Ok: if a script was read, and its text was made, the job is complete once the text is written
      pub completed : {A : Type 0} (result : Result A ScriptFault) (script text : List ℕ) (old new : R)
          (before after : W) → HasReadAll gives reads old script new
          → IsText script text → MatchResult result (λ _. HasWritten takes before text after)
          (λ _. StopsWriting takes refuses before text after)
          → OnOk result (Completes gives takes reads IsText old new before after)
      completed (Ok x) script text old new before after read is written =
          record { script = script; text = text; read = read; is_text = is; written = written }
      completed (Err fault) script text old new before after read is stops = tt

      -- after Err: if a script was read, and its text was made, the job stopped at a write that failed
      pub stopped_writing : {A : Type 0} (result : Result A ScriptFault) (script text : List ℕ) (old new : R)
          (before after : W)
          → HasReadAll gives reads old script new → IsText script text → IfErr result (λ fault. fault ≡ Write)
          → MatchResult result (λ _. HasWritten takes before text after)
          (λ _. StopsWriting takes refuses before text after)
          → IfErr result
          (λ fault. Stops gives fails takes refuses reads most IsText IsOfText fault old new before after)
      stopped_writing (Ok x) script text old new before after read is of_write written = tt
      stopped_writing (Err fault) script text old new before after read is of_write stops =
          inr (inr (of_write, record { script = script; text = text; read = read; is_text = is; stops = stops }))

      -- if reading a script stopped with a fault that is passed on, that is why the job stopped
      pub stopped_reading : {A : Type 0} (result : Result A ScriptFault) (passed fault : ScriptFault) (old new : R)
          (before : W) → result ≡ Err passed
          → passed ≡ fault → StopsReading gives fails reads most fault old new
          → IfErr result (λ told. Stops gives fails takes refuses reads most IsText IsOfText told old new before before)
      stopped_reading result passed fault old new before is same stops =
          passed_fault (λ told. Stops gives fails takes refuses reads most IsText IsOfText told old new before before)
          result passed fault is same (inl (stops, refl))

      -- if a script was read, and a fault of what was made of it is passed on, that is why the job stopped
      pub stopped_making : {A : Type 0} (result : Result A ScriptFault) (passed fault : ScriptFault) (script : List ℕ)
          (old new : R) (before : W)
          → result ≡ Err passed → passed ≡ fault → HasReadAll gives reads old script new → IsOfText script fault
          → IfErr result (λ told. Stops gives fails takes refuses reads most IsText IsOfText told old new before before)
      stopped_making result passed fault script old new before is same read of_text =
          passed_fault (λ told. Stops gives fails takes refuses reads most IsText IsOfText told old new before before)
          result passed fault is same
          (inr (inl (script, read, of_text, refl)))
