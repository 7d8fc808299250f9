-- Scripts whose comments are left blank, line by line.
use Rattle.std.proofs.Common.{◌≡◌, ℕ, ◌==◌, Bool, true, false, List, [], ◌∷◌, ◌++◌, length, ap, sym, ◌∙◌, append_assoc}
use Rattle.std.{proofs.{Common.{append-nil, arith}, lemmas.Grind.common_steps}, specs.Prelude.if◌then◌else◌}
use Rattle.xa_xid.specs.Bytes.{unblank}
use Rattle.xa_lines.specs.Script.{lines_of, is_empty_line, is_comment_line}
use Rattle.xa_lines.specs.Uncommented.{begins_commented, bare_line, bare_lines}

-- a text of no bytes has no lines
lines-none : (text : List ℕ) → (length text == 0) ≡ true → lines_of text ≡ []
unfolding lines_of
lines-none text empty = grind (arith, common_steps)

-- a line is empty if it has no byte
empty_line : (text : List ℕ) → is_empty_line text ≡ (length text == 0)
empty_line text = grind (arith, common_steps)

-- a choice by a test that holds gives the first of two
chosen : (b : Bool) (one other : Bool) → b ≡ true → (if b then one else other) ≡ one
chosen b one other is = cc

-- a choice by a test that fails gives the second of two
not_chosen : (b : Bool) (one other : Bool) → b ≡ false → (if b then one else other) ≡ other
not_chosen b one other is = cc

-- a blank line doesn't decide whether a script begins with a comment
pub begins_blank : (line rest : List ℕ) (lines : List (List ℕ)) → lines_of rest ≡ line ∷ lines
    → (length (unblank line) == 0) ≡ true
    → begins_commented (lines_of rest) ≡ begins_commented lines
unfolding begins_commented
begins_blank line rest lines cut blank = grind (arith, chosen, empty_line)

-- whether a script begins with a comment is decided by its first line that isn't blank
pub begins_filled : (line rest : List ℕ) (lines : List (List ℕ)) → lines_of rest ≡ line ∷ lines
    → (length (unblank line) == 0) ≡ false
    → begins_commented (lines_of rest) ≡ is_comment_line line
unfolding begins_commented
begins_filled line rest lines cut filled = grind (arith, empty_line, not_chosen)

-- a text without a line doesn't begin with a comment
pub begins_none : (rest : List ℕ) → (length rest == 0) ≡ true → begins_commented (lines_of rest) ≡ false
unfolding begins_commented
begins_none rest empty = ap begins_commented (lines-none rest empty)

-- the loop over lines: one more was written, blank if it was a comment, and those behind it are left
pub bare_more : (whole old more new line rest : List ℕ) (lines : List (List ℕ)) → lines_of rest ≡ line ∷ lines
    → whole ≡ old ++ bare_lines (lines_of rest)
    → more ≡ old ++ bare_line line → new ≡ more ++ 10 ∷ [] → whole ≡ new ++ bare_lines lines
unfolding bare_lines
bare_more whole old more new line rest lines cut is pushed ended = grind (arith, append_assoc)

-- the loop over lines ends: no line is left, and all are written
pub bare_end : (whole new rest : List ℕ) → (length rest == 0) ≡ true → whole ≡ new ++ bare_lines (lines_of rest)
    → new ≡ whole
unfolding bare_lines
bare_end whole new rest empty is = sym (is ∙ ap (λ l. new ++ bare_lines l) (lines-none rest empty) ∙ append-nil new)
