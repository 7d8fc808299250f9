-- How an outcome is written into the structures of C.
--     TellsReply, TellsPlace      the fields of a reply;  a place, and no field of a reply
--     ListsReply, Lists      the identifiers of a reply, or of an outcome
use Rattle.std.specs.Prelude.{◌≡◌, ◌<◌, ◌≤◌, ◌+◌, ◌^◌, ◌++◌, ℕ, pos, negsuc, List, length, take, slice_index_or, Option}
use Rattle.std.specs.Prelude.{Some, None}
use Rattle.xa_xid.specs.declared.xid.Xid.{Xid}
use Rattle.xa_server.specs.declared.reply.Reply.{Reply, TheVariants.{Ok as Accepted, Value, Recovered, Refused}}
use Rattle.xa_server.specs.Errors.{number_of}
use Rattle.nigbaru_c.specs.declared.{told.Told.Told, xid_part.XidPart.XidPart, outcome.Outcome.Outcome}

-- the reply's value and the value's length, its count of identifiers, or its error, whichever it has; of length, count
-- and error the rest are 0
abbrev pub TellsReply : Reply → Told → Type 0
TellsReply Accepted told = (told.length ≡ 0) × (told.count ≡ 0) × (told.error ≡ 0)
TellsReply (Value (Some value)) told = (told.length ≡ length value.items) × (take told.length told.value ≡ value.items)
    × (told.count ≡ 0) × (told.error ≡ 0) × (told.length ≤ 64)
TellsReply (Value None) told = (told.length ≡ 0) × (told.count ≡ 0) × (told.error ≡ 0)
TellsReply (Recovered xids) told = (told.length ≡ 0) × (told.count ≡ length xids) × (told.error ≡ 0)
TellsReply (Refused error) told = (told.length ≡ 0) × (told.count ≡ 0) × (told.error ≡ number_of error)

-- this place, and 0 as the value's length, the count of identifiers and the error
abbrev pub TellsPlace : ℕ → Told → Type 0
TellsPlace place told = (told.place ≡ place) × (told.length ≡ 0) × (told.count ≡ 0) × (told.error ≡ 0)

-- after an answer its place and the fields of its reply; after any other outcome no field of a reply, and as the place
-- that of the fault if the text is misspelled, else 0
abbrev pub Tells : Outcome → Told → Type 0
Tells (Outcome.Answered answer) told = (told.place ≡ answer.place) × TellsReply answer.reply told
Tells (Outcome.Misspelled fault) told = TellsPlace fault.at told
Tells (Outcome.Unanswered fault) told = TellsPlace 0 told
Tells Outcome.Vacant told = TellsPlace 0 told
Tells Outcome.OutOfRange told = TellsPlace 0 told

-- X/Open's parts: the formatID, or that of no identifier (-1) if it is too large, the two lengths, and the bytes of the
-- gtrid followed by those of the bqual
pub record IsLaid (xid : Xid) (part : XidPart) : Type 0 where
  pub format : xid.format_id < 2 ^ 63 → part.format_id ≡ pos xid.format_id
  pub too_large : 2 ^ 63 ≤ xid.format_id → part.format_id ≡ negsuc 0
  pub gtrid : part.gtrid_length ≡ pos (length xid.gtrid.items)
  pub bqual : part.bqual_length ≡ pos (length xid.bqual.items)
  pub bytes : take (length (xid.gtrid.items ++ xid.bqual.items)) part.data ≡ xid.gtrid.items ++ xid.bqual.items

-- as many parts as before: the k-th has the k-th identifier, if there is one, and those after the last identifier are
-- as they were
pub record LaidOut (xids : List Xid) (old new : List XidPart) : Type 0 where
  pub room : length new ≡ length old
  pub each : (k : ℕ) (d : Xid) (e : XidPart) → k < length xids → k < length new
      → IsLaid (slice_index_or xids k d) (slice_index_or new k e)
  pub rest : (k : ℕ) (e : XidPart) → length xids ≤ k → slice_index_or new k e ≡ slice_index_or old k e

-- the identifiers of a list; after any other reply what was there
abbrev pub ListsReply : Reply → List XidPart → List XidPart → Type 0
ListsReply (Recovered xids) old new = LaidOut xids old new
ListsReply Accepted old new = new ≡ old
ListsReply (Value value) old new = new ≡ old
ListsReply (Refused error) old new = new ≡ old

-- after an answer the caller's parts have its identifiers, if it is a list; after anything else they are as before
abbrev pub Lists : Outcome → List XidPart → List XidPart → Type 0
Lists (Outcome.Answered answer) old new = ListsReply answer.reply old new
Lists (Outcome.Misspelled fault) old new = new ≡ old
Lists (Outcome.Unanswered fault) old new = new ≡ old
Lists Outcome.Vacant old new = new ≡ old
Lists Outcome.OutOfRange old new = new ≡ old
