-- What a race makes of comments. All of it is an own rule: docs/COMMANDS.md#race.
use Rattle.std.specs.Prelude.{ℕ, Bool, false, if◌then◌else◌, List, [], ◌∷◌, ◌++◌}
use Rattle.xa_xid.specs.Bytes.{unblank}
use Rattle.xa_lines.specs.Script.{lines_of, is_empty_line, is_comment_line}

-- the first of these lines that isn't blank is a comment
unfoldable pub begins_commented : List (List ℕ) → Bool
-- the first line that isn't blank is a comment
begins_commented [] = false
begins_commented (line ∷ lines) = if is_empty_line (unblank line) then begins_commented lines else is_comment_line line

-- a line, or an empty one if it is a comment
abbrev pub bare_line : List ℕ → List ℕ
bare_line line = if is_comment_line line then [] else line

-- each line with a line feed, and comments left blank
unfoldable pub bare_lines : List (List ℕ) → List ℕ
-- lines of which each comment is left blank
bare_lines [] = []
bare_lines (line ∷ lines) = bare_line line ++ 10 ∷ bare_lines lines

-- the script that is raced: comments count as blank lines if the first line that isn't blank is one
abbrev pub uncommented : List ℕ → List ℕ
uncommented script = if begins_commented (lines_of script) then bare_lines (lines_of script) else script
