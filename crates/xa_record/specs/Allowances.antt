-- Known differences between a server and the rules, and how they are read.
-- Every rule here is the project's own: docs/HISTORIES.md#allowances.
--     no_kinds, kinds_after, kind_asked     the kind of what each session called for last: before the first event,
--                       after one, and of a session
use Rattle.std.specs.Prelude.{◌≡◌, ℕ, ◌+◌, ◌==◌, nat_lt, Bool, ◌&&◌, bytes_eq, if◌then◌else◌, Option, Some, None}
use Rattle.std.specs.Prelude.{Result, Ok, Err, List, [], ◌∷◌, codes, replicate, slice_get, slice_set}
use Rattle.xa_xid.specs.{Bytes.unblank, declared.statement.Statement.Statement}
use Rattle.xa_lines.specs.Script.{lines_of, first_word, behind_word, number_of_word}
use Rattle.xa_judge.specs.declared.{request.Request.Request, event.Event.{Event, TheVariants.Call}}
use Rattle.xa_record.specs.declared.{statement_kind.StatementKind.StatementKind, allowance.Allowance.Allowance}
use Rattle.xa_record.specs.{declared.allow_fault.AllowFault.AllowFault, Lines.is_silent}

-- the words of a kind of statement, as an allowance names it: those of the canonical form, without identifiers, keys,
-- values and CONVERT XID
abbrev pub words_of : StatementKind → List ℕ
words_of StatementKind.Start = codes "XA START"
words_of StatementKind.End = codes "XA END"
words_of StatementKind.Prepare = codes "XA PREPARE"
words_of StatementKind.Commit = codes "XA COMMIT"
words_of StatementKind.CommitOnePhase = codes "XA COMMIT ONE PHASE"
words_of StatementKind.Rollback = codes "XA ROLLBACK"
words_of StatementKind.Recover = codes "XA RECOVER"
words_of StatementKind.Get = codes "GET"
words_of StatementKind.Put = codes "PUT"
words_of StatementKind.Del = codes "DEL"
words_of StatementKind.Disconnect = codes "DISCONNECT"

-- the kind of an `XA COMMIT`, with ONE PHASE or without
abbrev pub kind_of_commit : Bool → StatementKind
kind_of_commit one_phase = if one_phase then StatementKind.CommitOnePhase else StatementKind.Commit

-- the kind of a statement; one that isn't supported has none
abbrev pub kind_of_statement : Statement → Option StatementKind
kind_of_statement (Statement.Start xid) = Some StatementKind.Start
kind_of_statement (Statement.End xid) = Some StatementKind.End
kind_of_statement (Statement.Prepare xid) = Some StatementKind.Prepare
kind_of_statement (Statement.Commit xid one_phase) = Some (kind_of_commit one_phase)
kind_of_statement (Statement.Rollback xid) = Some StatementKind.Rollback
kind_of_statement (Statement.Recover convert) = Some StatementKind.Recover
kind_of_statement Statement.Unsupported = None
kind_of_statement (Statement.Get key) = Some StatementKind.Get
kind_of_statement (Statement.Put key value) = Some StatementKind.Put
kind_of_statement (Statement.Del key) = Some StatementKind.Del
kind_of_statement Statement.Disconnect = Some StatementKind.Disconnect

-- the kind of a request; a text that isn't a statement has none
abbrev pub kind_of : Request → Option StatementKind
kind_of (Request.Statement statement) = kind_of_statement statement
kind_of Request.Unread = None

-- whether a number that the server gave may stand for the rules' number by this allowance, as the answer to a
-- statement of this kind
abbrev pub lets_stand : Allowance → StatementKind → ℕ → Bool
lets_stand one kind number = one.server == number && bytes_eq (words_of one.kind) (words_of kind)

-- the rules' numbers for which the allowances let a number stand that the server gave
abbrev pub allowed_for : List Allowance → StatementKind → ℕ → List ℕ
allowed_for [] kind number = []
allowed_for (one ∷ more) kind number =
    if lets_stand one kind number then one.rules ∷ allowed_for more kind number else allowed_for more kind number

-- the rules' numbers for which this number that was seen may stand, as the answer to a request of this kind; none for
-- a request without a kind
abbrev pub others_for : List Allowance → Option StatementKind → ℕ → List ℕ
others_for allowances None number = []
others_for allowances (Some kind) number = allowed_for allowances kind number

-- at each session's number the kind of what it called for last, before the first call: none has called; place 0
-- belongs to no session
abbrev pub no_kinds : List (Option StatementKind)
no_kinds = replicate 17 None

-- at each session's number the kind of what it called for last, after this event; None if that has no kind
abbrev pub kinds_after : Event → List (Option StatementKind) → List (Option StatementKind)
kinds_after (Call session request) kinds = slice_set kinds session (kind_of request)
kinds_after event kinds = kinds

-- the kind at a session's place in a list of last kinds; where there is no place, none was called for
abbrev pub kind_at : Option (Option StatementKind) → Option StatementKind
kind_at None = None
kind_at (Some kind) = kind

-- the kind of what the session called for last; None if it hasn't called, or if that has no kind
abbrev pub kind_asked : List (Option StatementKind) → ℕ → Option StatementKind
kind_asked kinds session = kind_at (slice_get kinds session)

-- an allowance, if both numbers are those of refusals: 0 to 65,535, as a MySQL error number has 16 bits
abbrev pub allowance_within : ℕ → StatementKind → ℕ → Option Allowance
allowance_within rules kind server =
    if nat_lt rules 65536 && nat_lt server 65536 then Some
    (record { rules = rules; kind = kind; server = server }) else None

-- an allowance of the rules' number, the kind, and the server's number; None if that couldn't be read, a text follows
-- it, or a number is too great
abbrev pub allowance_by : ℕ → StatementKind → Option ℕ → List ℕ → Option Allowance
allowance_by rules kind None rest = None
allowance_by rules kind (Some server) [] = allowance_within rules kind server
allowance_by rules kind (Some server) (byte ∷ rest) = None

-- an allowance whose kind was read: the server's number comes next, and nothing else
abbrev pub allowance_with : ℕ → StatementKind → List ℕ → Option Allowance
allowance_with rules kind text = allowance_by rules kind (number_of_word (first_word text)) (behind_word text)

-- an allowance whose words XA COMMIT were read: ONE PHASE and a colon come next, and then the server's number
unfoldable pub one_phase_allowed : ℕ → List ℕ → List ℕ → Option Allowance
one_phase_allowed rules word text =
    if bytes_eq word (codes "ONE") && bytes_eq (first_word text)
    (codes "PHASE:") then allowance_with rules StatementKind.CommitOnePhase (behind_word text) else None

-- an allowance whose word XA was read: the next word and the text behind it say the rest
unfoldable pub xa_allowed : ℕ → List ℕ → List ℕ → Option Allowance
xa_allowed rules word text =
    if bytes_eq word (codes "START:") then allowance_with rules StatementKind.Start text else
    if bytes_eq word (codes "END:") then allowance_with rules StatementKind.End text else
    if bytes_eq word (codes "PREPARE:") then allowance_with rules StatementKind.Prepare text else
    if bytes_eq word (codes "COMMIT:") then allowance_with rules StatementKind.Commit text else
    if bytes_eq word (codes "COMMIT") then one_phase_allowed rules (first_word text) (behind_word text) else
    if bytes_eq word (codes "ROLLBACK:") then allowance_with rules StatementKind.Rollback text else
    if bytes_eq word (codes "RECOVER:") then allowance_with rules StatementKind.Recover text else None

-- an allowance whose rules' number was read: the next word and the text behind it say the rest
unfoldable pub allowed : ℕ → List ℕ → List ℕ → Option Allowance
allowed rules word text =
    if bytes_eq word (codes "XA") then xa_allowed rules (first_word text) (behind_word text) else
    if bytes_eq word (codes "GET:") then allowance_with rules StatementKind.Get text else
    if bytes_eq word (codes "PUT:") then allowance_with rules StatementKind.Put text else
    if bytes_eq word (codes "DEL:") then allowance_with rules StatementKind.Del text else
    if bytes_eq word (codes "DISCONNECT:") then allowance_with rules StatementKind.Disconnect text else None

-- an allowance from the rules' number, if that could be read, and the text behind it
abbrev pub allowance_from : Option ℕ → List ℕ → Option Allowance
allowance_from None text = None
allowance_from (Some rules) text = allowed rules (first_word text) (behind_word text)

-- what a text allows that doesn't begin with a blank: the rules' number, the words of a kind of statement
-- with a colon, the server's number
unfoldable pub allowance_of : List ℕ → Option Allowance
-- what a line allows
allowance_of text = allowance_from (number_of_word (first_word text)) (behind_word text)

-- what one line allows, before what the others allow if none of them is faulty
abbrev pub and_more : Allowance → Result (List Allowance) ℕ → Result (List Allowance) ℕ
and_more one (Ok more) = Ok (one ∷ more)
and_more one (Err number) = Err number

-- what the first line allows, if it isn't faulty, followed by what the others allow
abbrev pub first_allows : Result (Option Allowance) ℕ → Result (List Allowance) ℕ → Result (List Allowance) ℕ
first_allows (Err number) rest = Err number
first_allows (Ok None) rest = rest
first_allows (Ok (Some one)) rest = and_more one rest

-- a line without an allowance is faulty: its number is what is reported
abbrev pub or_faulty : ℕ → Option Allowance → Result (Option Allowance) ℕ
or_faulty number None = Err number
or_faulty number (Some one) = Ok (Some one)

-- what the line of this number allows: nothing if it is blank or a comment; its number if it is faulty, that is, no
-- allowance either
abbrev pub line_allows : ℕ → List ℕ → Result (Option Allowance) ℕ
line_allows number line = if is_silent line then Ok None else or_faulty number (allowance_of (unblank line))

-- what lines allow, the first of which has this number, or the number of the first faulty one: neither an allowance,
-- nor blank, nor a comment
unfoldable pub allowances_in : ℕ → List (List ℕ) → Result (List Allowance) ℕ
allowances_in number [] = Ok []
allowances_in number (line ∷ lines) = first_allows (line_allows number line) (allowances_in (number + 1) lines)

-- what the lines of a text allow, or the number of the first faulty one: neither an allowance, nor blank, nor a
-- comment
unfoldable pub allowances_of : List ℕ → Result (List Allowance) ℕ
-- what the lines of a text allow, or the number of the first faulty line
allowances_of text = allowances_in 1 (lines_of text)

-- whether a fault is right for what the lines allow: `Line` has the number of the first faulty line; `NoMemory` may
-- always be
abbrev pub IsAllowFaultOf : Result (List Allowance) ℕ → AllowFault → Type 0
IsAllowFaultOf said (AllowFault.Line number) = said ≡ Err number
IsAllowFaultOf said AllowFault.NoMemory = Unit {0}
