-- How the verdicts on several records are written, and with which status judging them ends. Every rule here is the
-- project's own, but the form of TAP: the Test Anything Protocol, version 13.
use Rattle.std.specs.Prelude.{◌==◌, ◌+◌, ◌++◌, ◌∷◌, [], ◌||◌, if◌then◌else◌, nat_lt, ℕ, Bool, true, false, List}
use Rattle.std.specs.Prelude.{codes, decimal}
use Rattle.xa_lines.specs.Script.{lines_of}

-- the worse of two statuses: the least that isn't 0, or 0 if both are. ILLEGAL goes before UNDECIDED, then faulty
-- lines, EMPTY, and LEGAL last
abbrev pub worse : (one other : ℕ) → ℕ
worse one other =
    if one == 0 then other else (if other == 0 then one else (if nat_lt other one then other else one))

-- the worst of many statuses and of one before them
abbrev pub worst_from : ℕ → List ℕ → ℕ
worst_from first [] = first
worst_from first (status ∷ statuses) = worst_from (worse first status) statuses

-- the first line; the empty one if there is none
abbrev pub first_of : List (List ℕ) → List ℕ
first_of [] = []
first_of (line ∷ lines) = line

-- the first line of a text, without its line feed
abbrev pub first_line : List ℕ → List ℕ
first_line text = first_of (lines_of text)

-- the line of a record: its name, and the first line of its verdict
abbrev pub listed_line : (name text : List ℕ) → List ℕ
listed_line name text = name ++ (codes ": " ++ (first_line text ++ 10 ∷ []))

-- a line as a comment of TAP
abbrev pub note : List ℕ → List ℕ
note line = codes "# " ++ (line ++ 10 ∷ [])

-- lines as comments of TAP
abbrev pub notes_of : List (List ℕ) → List ℕ
notes_of [] = []
notes_of (line ∷ lines) = note line ++ notes_of lines

-- what a verdict says, as comments: of LEGAL (status 0) its first line alone
abbrev pub notes_on : (status : ℕ) → (text : List ℕ) → List ℕ
notes_on status text = if status == 0 then note (first_line text) else notes_of (lines_of text)

-- a name in a line of TAP: `#` and `\` have a backslash before them, and a byte below 32 is a blank
abbrev pub tap_name : List ℕ → List ℕ
tap_name [] = []
tap_name (byte ∷ bytes) =
    if nat_lt byte 32 then 32 ∷ tap_name bytes
    else (if byte == 35 || byte == 92 then 92 ∷ byte ∷ tap_name bytes else byte ∷ tap_name bytes)

-- the words of TAP (the Test Anything Protocol) for a status: only 0 is ok
abbrev pub tap_sign : (status : ℕ) → List ℕ
tap_sign status = if status == 0 then codes "ok " else codes "not ok "

-- a test point of TAP: it is ok if the record is LEGAL
abbrev pub tap_point : (number status : ℕ) → (name : List ℕ) → List ℕ
tap_point number status name = tap_sign status ++ (decimal number ++ (codes " - " ++ (tap_name name ++ 10 ∷ [])))

-- what is written for a record as a test of TAP: its line, and below it what its verdict says, as comments (`notes_on`)
abbrev pub tap_piece : (number : ℕ) → (name : List ℕ) → (status : ℕ) → (text : List ℕ) → List ℕ
tap_piece number name status text = tap_point number status name ++ notes_on status text

-- what is written for the record of this number and name, whose verdict is a status and a text: a test of TAP, or a
-- line
abbrev pub piece : (tap : Bool) → (number : ℕ) → (name : List ℕ) → ℕ × List ℕ → List ℕ
piece true number name verdict = tap_piece number name verdict.0 verdict.1
piece false number name verdict = listed_line name verdict.1

-- what is written for several records, the first of which has this number, as far as both lists go
abbrev pub pieces : (tap : Bool) → (number : ℕ) → (names : List (List ℕ)) → List (ℕ × List ℕ) → List ℕ
pieces tap number [] verdicts = []
pieces tap number (name ∷ names) [] = []
pieces tap number (name ∷ names) (verdict ∷ verdicts) =
    piece tap number name verdict ++ pieces tap (number + 1) names verdicts

-- what is written before the first of so many records: with TAP its version and the plan
abbrev pub heading : (tap : Bool) → (count : ℕ) → List ℕ
heading true count = codes "TAP version 13" ++ (10 ∷ codes "1.." ++ (decimal count ++ 10 ∷ []))
heading false count = []

-- verdicts are listed where there are several records, or TAP is asked for
abbrev pub is_list : (tap : Bool) → (count : ℕ) → Bool
is_list tap count = tap || nat_lt 1 count
