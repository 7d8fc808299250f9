-- What is written for global transactions. Every rule here is the project's own: docs/HISTORIES.md#audits.
--     end_text, verdict_text     the words for an end, and for a verdict
use Rattle.std.specs.Prelude.{ℕ, Bool, true, false, List, [], ◌∷◌, ◌++◌, length, codes, decimal}
use Rattle.xa_xid.specs.XidText.{part_text}
use Rattle.xa_audit.specs.declared.{ends.End.End, branch.Branch.Branch, global.GlobalName.GlobalName}
use Rattle.xa_audit.specs.{declared.{verdict.Verdict.Verdict, form.Form.Form}, Globals.{Global, verdict_of, count_of}}
use Rattle.xa_audit.specs.declared.verdict.Verdict.TheVariants.{Atomic, Mixed, InDoubt as LeftInDoubt, Open as LeftOpen}

-- the words for an end
abbrev pub end_text : End → List ℕ
end_text End.Committed = codes "COMMITTED"
end_text End.RolledBack = codes "ROLLED BACK"
end_text End.Empty = codes "EMPTY"
end_text End.InDoubt = codes "IN DOUBT"
end_text End.Open = codes "OPEN"

-- the words for a verdict
abbrev pub verdict_text : Verdict → List ℕ
verdict_text Atomic = codes "ATOMIC"
verdict_text Mixed = codes "MIXED"
verdict_text LeftInDoubt = codes "IN DOUBT"
verdict_text LeftOpen = codes "OPEN"

-- the line of a life of a branch
abbrev pub life_text : Branch → End → List ℕ
life_text branch end =
    codes "STORE " ++ decimal branch.store ++ codes " " ++ part_text branch.xid.bqual.items ++ codes " " ++ end_text end
    ++ codes "\n"

-- what is written for each of a list
unfoldable pub each_text : {A : Type 0} → (A → List ℕ) → List A → List ℕ
each_text text [] = []
each_text text (x ∷ xs) = text x ++ each_text text xs

-- the lines of a branch, one for each life
abbrev pub branch_text : Branch → List ℕ
branch_text branch = each_text (life_text branch) branch.ends

-- the line of a global transaction, those of its branches, and the verdict
abbrev pub global_text : Global → List ℕ
global_text global =
    codes "GLOBAL " ++ decimal global.0.format_id ++ codes " " ++ part_text global.0.gtrid.items ++ codes "\n"
    ++ each_text branch_text global.1 ++ verdict_text (verdict_of global.1) ++ codes "\n"

-- how many global transactions there are, and how many have which verdict
unfoldable pub last_text : List Global → List ℕ
-- the last line: how many have which verdict
last_text globals =
    codes "GLOBALS " ++ decimal (length globals)
    ++ codes " ATOMIC " ++ decimal (count_of Atomic globals)
    ++ codes " MIXED " ++ decimal (count_of Mixed globals)
    ++ codes " IN DOUBT " ++ decimal (count_of LeftInDoubt globals)
    ++ codes " OPEN " ++ decimal (count_of LeftOpen globals) ++ codes "\n"

-- the lines of all global transactions, and the last line
abbrev pub lines_text : List Global → List ℕ
lines_text globals = each_text global_text globals ++ last_text globals

-- a word as a string of JSON; no word that is written here has a byte that JSON escapes
abbrev pub string_text : List ℕ → List ℕ
string_text word = codes "\"" ++ word ++ codes "\""

-- a comma, unless this is the first of a list
abbrev pub comma_unless : Bool → List ℕ
comma_unless true = []
comma_unless false = codes ","

-- a comma, if more of a list is left
abbrev pub comma_before : {A : Type 0} → List A → List ℕ
comma_before [] = []
comma_before (x ∷ xs) = codes ","

-- what is written for each of a list, with commas between
unfoldable pub each_json : {A : Type 0} → (A → List ℕ) → List A → List ℕ
each_json json [] = []
each_json json (x ∷ xs) = json x ++ comma_before xs ++ each_json json xs

-- an end as a string of JSON
abbrev pub end_json : End → List ℕ
end_json end = string_text (end_text end)

-- a branch as an object of JSON
abbrev pub branch_json : Branch → List ℕ
branch_json branch =
    codes "{\"store\":" ++ decimal branch.store ++ codes ",\"bqual\":" ++ string_text (part_text branch.xid.bqual.items)
    ++ codes ",\"ends\":[" ++ each_json end_json branch.ends ++ codes "]}"

-- what stands before the branches of a global transaction
abbrev pub head_json : GlobalName → List ℕ
head_json name =
    codes "{\"format\":" ++ decimal name.format_id ++ codes ",\"gtrid\":" ++ string_text (part_text name.gtrid.items)
    ++ codes ",\"branches\":["

-- what stands behind the branches of a global transaction: its verdict
abbrev pub tail_json : List Branch → List ℕ
tail_json branches = codes "],\"verdict\":" ++ string_text (verdict_text (verdict_of branches)) ++ codes "}"

-- a global transaction as an object of JSON
abbrev pub global_json : Global → List ℕ
global_json global = head_json global.0 ++ each_json branch_json global.1 ++ tail_json global.1

-- how many have each verdict, as members of an object
unfoldable pub counts_json : List Global → List ℕ
counts_json globals =
    codes "\"atomic\":" ++ decimal (count_of Atomic globals) ++ codes ",\"mixed\":" ++ decimal (count_of Mixed globals)
    ++ codes ",\"in_doubt\":" ++ decimal (count_of LeftInDoubt globals) ++ codes ",\"open\":"
    ++ decimal (count_of LeftOpen globals)

-- all global transactions, and how many have each verdict, as one object of JSON on one line
abbrev pub json_text : List Global → List ℕ
json_text globals =
    codes "{\"globals\":[" ++ each_json global_json globals ++ codes "]," ++ counts_json globals ++ codes "}\n"

-- what is written in each form
abbrev pub text_in : Form → List Global → List ℕ
text_in Form.Lines globals = lines_text globals
text_in Form.LastLine globals = last_text globals
text_in Form.Json globals = json_text globals
