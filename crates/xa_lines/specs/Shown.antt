-- What answers a line of which the store is shown behind the answer.
--     BeginsEmpty, Shows         how a server that shows its store begins, and how it may answer a line
use Rattle.std.specs.Prelude.{◌≡◌, ◌≢◌, ◌⊎◌, ℕ, Bool, true, false, List, [], ◌++◌, codes, Result, Ok, Err}
use Rattle.xa_xid.specs.declared.statement.Statement.{Statement}
use Rattle.xa_statement.specs.Reading.{read_of}
use Rattle.xa_server.specs.{Overview.keys_about, State.{State, no_state}}
use Rattle.xa_lines.specs.{Script.{Line, Blank, Bad, Given, line_of, is_comment_line}, declared.shown.Shown.Shown}
use Rattle.xa_lines.specs.{Received.{Received, Whole, TooLong}, Statements.IsAnswerTo, Listing.listing}

-- a comment is repeated, behind two blanks
abbrev pub comment_text : List ℕ → List ℕ
comment_text line = codes "  " ++ line ++ codes "\n"

-- where memory is refused for a listing or a comment, this stands in its place (own rule)
abbrev pub unshown_text : List ℕ
unshown_text = codes "  OUT OF MEMORY\n"

-- the rows to show for a text that was read as a statement, or couldn't be
abbrev pub keys_of_read : State → ℕ → Result Statement ℕ → List (List ℕ)
keys_of_read state session (Ok statement) = keys_about state session statement
keys_of_read state session (Err place) = []

-- the rows that a line is about, before it is answered
unfoldable pub keys_asked : State → Line → List (List ℕ)
-- the rows that a line is about
keys_asked state Blank = []
keys_asked state Bad = []
keys_asked state (Given session text) = keys_of_read state session (read_of text)

-- behind the answer to a line stand all branches, and the rows that the line is about, as they are after it; a line
-- of blanks has no answer, and nothing stands behind it
unfoldable pub listing_after : State → Line → State → List ℕ
-- what stands behind the answer to a line
listing_after old Blank new = []
listing_after old Bad new = listing new []
listing_after old (Given session text) new = listing new (keys_asked old (Given session text))

-- behind the answer stands this listing, or that memory is refused for it; where nothing is to be listed no memory is
-- wanted, and none is refused
abbrev pub StandsBehind : List ℕ → List ℕ → List ℕ → Type 0
StandsBehind listed answer text = (text ≡ answer ++ listed) ⊎ ((text ≡ answer ++ unshown_text) × (listed ≢ []))

-- the answer that serving gives, and behind it the listing, or that memory is refused for that
pub record IsAnswerShown (old : State) (line : Line) (text : List ℕ) (new : State) : Type 0 where
  pub answer : List ℕ
  pub is : IsAnswerTo old line answer new
  pub shown : StandsBehind (listing_after old line new) answer text

-- a comment is repeated, or it is said that memory is refused for that; it changes nothing
abbrev pub IsCommentShown : State → List ℕ → List ℕ → State → Type 0
IsCommentShown old line text new = ((text ≡ comment_text line) ⊎ (text ≡ unshown_text)) × (new ≡ old)

-- how a line may be answered, which is a comment or isn't
abbrev pub IsLineShown : Bool → State → List ℕ → List ℕ → State → Type 0
IsLineShown true old line text new = IsCommentShown old line text new
IsLineShown false old line text new = IsAnswerShown old (line_of line) text new

-- how a line may be answered; one that is too long is a bad one, whatever it begins with
unfoldable pub IsShown : State → Received → List ℕ → State → Type 0
-- how a line may be answered
IsShown old (Whole line) text new = IsLineShown (is_comment_line line) old line text new
IsShown old TooLong text new = IsAnswerShown old Bad text new

-- the server holds nothing yet
abbrev pub BeginsEmpty : Shown → Type 0
BeginsEmpty shown = shown.server ≡ no_state

-- a server that shows its store answers a line so, by the server within it
abbrev pub Shows : Shown → Received → List ℕ → Shown → Type 0
Shows old line text new = IsShown old.server line text new.server
