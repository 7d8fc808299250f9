-- Cutting a script into lines, and reading a line.
use Rattle.std.proofs.Common.{◌≡◌, ℕ, ◌+◌, ◌<◌, ◌==◌, Bool, true, false, not, cond, Some, None, List, [], ◌∷◌, length}
use Rattle.std.proofs.{Common.{take, drop, ap, sym, ◌∙◌, arith}, lemmas.{List.drop-drop, Grind.common_steps}}
use Rattle.std.specs.List.{prefix_len}
use Rattle.xa_xid.specs.Bytes.{unblank}
use Rattle.xa_lines.specs.Script.{Blank, Bad, Given, lines_of, with_first, line_of, filled_line, first_word, after_word}
use Rattle.xa_lines.specs.Script.{session_named, is_empty_line}

-- how many bytes stand before the first line feed
abbrev pub first_length : List ℕ → ℕ
first_length text = prefix_len (λ byte. not (byte == 10)) text

-- one byte more in front of a text makes its first line longer
longer : (byte n : ℕ) (text : List ℕ)
    → (byte ∷ take n text) ∷ lines_of (drop (n + 1) text)
    ≡ take (1 + n) (byte ∷ text) ∷ lines_of (drop (1 + n + 1) (byte ∷ text))
longer byte n text = grind (arith)

-- the first line ends at the first line feed; `b` says whether this byte is one
cut_at : (b : Bool) (byte n : ℕ) (text : List ℕ) → lines_of text ≡ take n text ∷ lines_of (drop (n + 1) text)
    → cond b ([] ∷ lines_of text) (with_first byte (lines_of text))
    ≡ take (cond (not b) (1 + n) 0) (byte ∷ text) ∷ lines_of (drop (cond (not b) (1 + n) 0 + 1) (byte ∷ text))
cut_at b byte n text short = grind (arith, longer)

-- the first line ends at the text's last byte; `b` says whether that is a line feed
last_cut : (b : Bool) (byte : ℕ)
    → cond b ([] ∷ []) ((byte ∷ []) ∷ []) ≡ take (cond (not b) 1 0) (byte ∷ []) ∷ lines_of
    (drop (cond (not b) 1 0 + 1) (byte ∷ []))
unfolding lines_of
last_cut b byte = grind (arith)

-- the lines of a text that isn't empty are its first line and the lines of what stands after that line's line feed
pub lines_of-cut : (text : List ℕ) → 0 < length text → lines_of text
    ≡ take (first_length text) text ∷ lines_of (drop (first_length text + 1) text)
unfolding lines_of
lines_of-cut [] h = absurd (omega arith)
lines_of-cut (byte ∷ []) h = last_cut (byte == 10) byte
lines_of-cut (byte ∷ next ∷ rest) h =
    cut_at (byte == 10) byte (first_length (next ∷ rest)) (next ∷ rest) (lines_of-cut (next ∷ rest) (omega arith))

-- a text of length 0 is the empty one
empty_is : (text : List ℕ) → (length text == 0) ≡ is_empty_line text
empty_is text = grind (arith, common_steps)

-- a line of nothing but blanks says nothing
pub line_of-blank : (line text : List ℕ) → text ≡ unblank line → (length text == 0) ≡ true → Blank ≡ line_of line
unfolding line_of
line_of-blank line text is empty = grind (arith, empty_is)

-- a line that isn't blank is read without its leading blanks
pub line_of-filled : (line text : List ℕ) → text ≡ unblank line → (length text == 0) ≡ false
    → line_of line ≡ filled_line text
unfolding line_of
line_of-filled line text is filled = grind (arith, empty_is)

-- a line whose first word is no session's number is bad
pub filled-bad : (line text word : List ℕ) → line_of line ≡ filled_line text → word ≡ first_word text
    → session_named word ≡ None → Bad ≡ line_of line
filled-bad line text word is at also = cc

-- a line whose first word is a session's number gives that session the text behind it
pub filled-given : (line text word rest : List ℕ) (session : ℕ) → line_of line ≡ filled_line text
    → word ≡ first_word text → rest ≡ after_word text
    → session_named word ≡ Some session
    → Given session (unblank rest) ≡ line_of line
filled-given line text word rest session is at after also = cc

-- if a text that isn't empty is split before its first line feed, its lines are the part before and the lines behind
-- that line feed
pub lines_of-split : (text line rest lines : List ℕ) → 0 < length text → line ≡ take (first_length text) text
    → rest ≡ drop (first_length text) text
    → lines ≡ drop 1 rest
    → lines_of text ≡ line ∷ lines_of lines
lines_of-split text line rest lines some is after next =
    let e : drop (first_length text + 1) text ≡ lines = sym (drop-drop 1 (first_length text) text)
    ∙ ap (drop 1) (sym after) ∙ sym next in
    rw is (lines_of-cut text some ∙ ap (λ l. take (first_length text) text ∷ lines_of l) e)

-- a text of no bytes is what is left of it without its first byte
pub none_left : (text : List ℕ) → length text < 1 → text ≡ drop 1 text
none_left text short = grind (arith)
