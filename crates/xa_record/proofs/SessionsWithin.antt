-- If a line of a record names a session, that is below 17, as each session's number is.
use Rattle.std.proofs.Common.{◌≡◌, ℕ, ◌+◌, ◌-◌, ◌<◌, nat_le, ◌&&◌, ◌==◌, Bool, true, cond, if◌then◌else◌, Option, Some}
use Rattle.std.proofs.{Common.{None, List, arith}, lemmas.{Bool.Decides.nat_tests, Grind.common_steps}}
use Rattle.std.specs.Prelude.{bytes_eq, nat_lt}
use Rattle.xa_xid.specs.{Literal.Reading, Xid.Text}
use Rattle.xa_lines.specs.Script.{Line, line_of, first_word, behind_word, line_given, session_named}
use Rattle.xa_record.specs.Lines.{LineSaid, Nothing, Bad, Says, Awaits, Closed, alone, value_said, rows_said}
use Rattle.xa_record.specs.Lines.{error_said, return_said, loss_said, session_said, filled_said, reading_of_line}
use Rattle.xa_record.specs.Reading.{session_of}

-- the session that a line names, if it names one, is below 17
abbrev pub Within : LineSaid → Type 0
Within Nothing = Unit {0}
Within Bad = Unit {0}
Within (Says told) = session_of told < 17
Within (Awaits session count) = session < 17
Within (Closed session) = session < 17

-- of two readings of a line a test takes one: if each names a session below 17 or none, the one taken does
either : (b : Bool) (one two : LineSaid) → Within one → Within two → Within (if b then one else two)
either b one two first second = grind (arith)

-- if what a line says names a session below 17 or none, it still does where it is said only if no text follows
-- (`alone`)
alone_within : (said : LineSaid) (text : List ℕ) → Within said → Within (alone said text)
alone_within said text is = grind (arith)

-- a line with a returned value names a session below 17 or none, if its session is below 17
value_within : (session : ℕ) (reading : Reading Text) → session < 17 → Within (value_said session reading)
value_within session reading is = grind (arith, alone_within)

-- a line with the number of returned rows names a session below 17 or none, if its session is below 17
rows_within : (session : ℕ) (count : Option ℕ) (rest : List ℕ) → session < 17 → Within (rows_said session count rest)
rows_within session count rest is = grind (arith, alone_within)

-- a line with a returned refusal names a session below 17 or none, if its session is below 17
error_within : (session : ℕ) (number : Option ℕ) → session < 17 → Within (error_said session number)
error_within session number is = grind (arith, either, nat_lt)

-- a line of any return names a session below 17 or none, if its session is below 17
return_within : (session : ℕ) (word text : List ℕ) → session < 17 → Within (return_said session word text)
unfolding return_said
return_within session word text is =
    grind (arith, alone_within, bytes_eq, either, error_within, rows_within, value_within)

-- a line of a client that is lost or found its connection closed names a session below 17 or none, if its session is
-- below 17
loss_within : (session : ℕ) (word text : List ℕ) → session < 17 → Within (loss_said session word text)
unfolding loss_said
loss_within session word text is = grind (arith, alone_within, bytes_eq, either)

-- what follows a session's number names a session below 17 or none, if that number is below 17
given_within : (session : ℕ) (text : List ℕ) → session < 17
    → Within (session_said session (first_word text) (behind_word text))
unfolding session_said
given_within session text is = grind (arith, bytes_eq, either, loss_within, return_within)

-- the session that a word names, if it names one, is below 17
abbrev NamesWithin : Option ℕ → Type 0
NamesWithin None = Unit {0}
NamesWithin (Some session) = session < 17

-- a session's number that counts only if a test holds is below 17 if it counts, since the test says so
chosen : (b : Bool) (session : ℕ) → (b ≡ true → session < 17) → NamesWithin (cond b (Some session) None)
chosen b session within = grind (arith)

-- one digit from 1 to 9 (the bytes 49 to 57) names a session below 17
one_digit : (one : ℕ) → (nat_le 49 one && nat_le one 57) ≡ true → one - 48 < 17
one_digit one is = grind (arith, nat_tests, common_steps)

-- two digits, a 1 and one from 0 to 6 (the bytes 48 to 54), name a session below 17
two_digits : (ten one : ℕ) → ((ten == 49) && (nat_le 48 one && nat_le one 54)) ≡ true → 10 + (one - 48) < 17
two_digits ten one is = grind (arith, nat_tests, common_steps)

-- each word that names a session names one below 17
named_within : (word : List ℕ) → NamesWithin (session_named word)
named_within word = grind (arith, chosen, nat_le, one_digit, two_digits)

-- a line whose session was read as one below 17, or as none, names one below 17 or none
line_within_by : (session : Option ℕ) (text : List ℕ) → NamesWithin session
    → Within (filled_said (line_given session text))
line_within_by session text is = grind (arith, given_within)

-- of two readings of a line a test takes one: if each names a session below 17 or none, the one taken does
said_within : (b : Bool) (one two : Line) → Within (filled_said one) → Within (filled_said two)
    → Within (filled_said (cond b one two))
said_within b one two first second = grind (arith)

-- any line of a record that names a session names one below 17
pub line_within : (line : List ℕ) → Within (reading_of_line line)
unfolding reading_of_line line_of
line_within line = grind (arith, either, line_within_by, named_within, said_within)
