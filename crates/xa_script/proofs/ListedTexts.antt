-- The lines of texts that are written for several records.
use Rattle.std.proofs.Common.{◌≡◌, ◌==◌, ◌++◌, ◌∙◌, ℕ, List, [], true, length, ap, sym, append-nil}
use Rattle.xa_lines.{specs.Script.lines_of, proofs.JsonWritten.lines-none}
use Rattle.xa_script.specs.Listing.{first_of, first_line, notes_of}

-- the first line of an empty text is empty
pub no_first : (text : List ℕ) → (length text == 0) ≡ true → [] ≡ first_line text
no_first text empty = sym (ap first_of (lines-none text empty))

-- if `out` and the comments for the lines of `text` are the whole, and `text` is empty, `out` is the whole
pub notes_end : (out whole text : List ℕ) → (length text == 0) ≡ true → out ++ notes_of (lines_of text) ≡ whole
    → out ≡ whole
notes_end out whole text empty is =
    sym (append-nil out) ∙ ap (λ (lines : List (List ℕ)). out ++ notes_of lines) (sym (lines-none text empty)) ∙ is
