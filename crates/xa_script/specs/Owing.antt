-- What a writer of texts has written, and has still to write.
use Rattle.std.specs.Prelude.{◌≡◌, ◌≤◌, ◌<◌, ℕ, ◌+◌, true, false, not, List, [], ◌++◌, ◌⊎◌, length, take, drop, Option}
use Rattle.std.specs.Io.KnownBytes.{Appends, append_known}
use Rattle.xa_script.specs.declared.{line_form.LineForm.LineForm, texts.Texts.Texts}
use Rattle.xa_script.specs.TextLines.{unfed, is_fed, rows_after, ends_line, IsWrittenAs}

-- what was written, and then what is still due
abbrev pub sent_of : {W : Type 0} → (W → Option (List ℕ)) → Texts W → Option (List ℕ)
sent_of contents texts = append_known (contents texts.inner) (drop texts.given texts.due.items)

-- what was written, then what is still due, then what has come of the line
abbrev pub known_of : {W : Type 0} → (W → Option (List ℕ)) → Texts W → Option (List ℕ)
known_of contents texts = append_known (contents texts.inner) (drop texts.given texts.due.items ++ texts.held.items)

-- a whole line, and what is written for it. A row stays as it is, and `next`, the rows that are still to come, is one
-- less than `rows`; any other line says how many rows come next
pub record IsEnded (form : LineForm) (rows : ℕ) (line text : List ℕ) (next : ℕ) : Type 0 where
  pub as_row : 0 < rows → (text ≡ line) × (next + 1 ≡ rows)
  pub as_line : rows ≡ 0 → IsWrittenAs form line text × (next ≡ rows_after form (unfed line))

-- the bytes end a line, and what is written for it is due
pub record Ends {W : Type 0} (contents : W → Option (List ℕ)) (old : Texts W) (bytes : List ℕ)
    (new : Texts W) : Type 0 where
  pub text : List ℕ
  pub whole : ends_line old.rows (old.held.items ++ bytes) ≡ true
  pub written : IsEnded old.form old.rows (old.held.items ++ bytes) text new.rows
  pub sent : Appends (sent_of contents old) (known_of contents new) text
  pub held : new.held.items ≡ []
  pub passes : new.passes ≡ false

-- the bytes come after those of a line that isn't whole yet
pub record Comes {W : Type 0} (contents : W → Option (List ℕ)) (old : Texts W) (bytes : List ℕ)
    (new : Texts W) : Type 0 where
  pub known : Appends (known_of contents old) (known_of contents new) bytes
  pub begun : (count : ℕ) → 0 < count → count ≤ length bytes
      → ends_line old.rows (old.held.items ++ take count bytes) ≡ false
  pub held : new.held.items ≡ old.held.items ++ bytes
  pub rows : new.rows ≡ old.rows
  pub passes : new.passes ≡ false

-- the bytes pass unchanged, since the line has more bytes than there is room for, which is 512, or was cut off by a
-- flush. Passing goes on unless the last of them is a line feed
pub record Passes {W : Type 0} (contents : W → Option (List ℕ)) (old : Texts W) (bytes : List ℕ)
    (new : Texts W) : Type 0 where
  pub why : (old.passes ≡ true) ⊎ (length old.held.items ≡ 512)
  pub known : Appends (known_of contents old) (known_of contents new) bytes
  pub passes : new.passes ≡ not (is_fed bytes)
  pub held : new.held.items ≡ []
  pub rows : new.rows ≡ old.rows

-- the bytes that are taken come after those of a line, end it, or pass
abbrev pub Takes : {W : Type 0} → (W → Option (List ℕ)) → Texts W → List ℕ → Texts W → Type 0
Takes contents old bytes new =
    Comes contents old bytes new ⊎ (Ends contents old bytes new ⊎ Passes contents old bytes new)
