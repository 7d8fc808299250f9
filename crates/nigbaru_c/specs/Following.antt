-- How C gets the history.
--     IsNumber, IsLength      the number of an entry's session, and the length of its text, in range
use Rattle.std.specs.Prelude.{◌≡◌, ◌≤◌, ℕ, length, take, Option, None, Some}
use Rattle.chain_log.specs.RingPass.{known_of}
use Rattle.xa_statement.specs.Canonical.{statement_text}
use Rattle.xa_endless.specs.{Following.Hands, Seen.HasOnlySeen, declared.following.Next.Next}
use Rattle.xa_endless.specs.declared.session.EndlessSession.{EndlessSession}
use Rattle.nigbaru_c.specs.declared.handed.Handed.{Handed}

-- the status that C gets for what comes next of the history: an entry, the end, or lost entries; None, 9, is that no
-- session is held
abbrev pub status_of_next : Option Next → ℕ
status_of_next (Some (Next.Entry entry)) = 0
status_of_next (Some Next.End) = 2
status_of_next (Some (Next.Lost count)) = 16
status_of_next None = 9

-- the number is a session's, 1 to 16
abbrev pub IsNumber : ℕ → Type 0
IsNumber number = (1 ≤ number) × (number ≤ 16)

-- the length is from 1 to 304, which is the room that C's structure has for a text
abbrev pub IsLength : ℕ → Type 0
IsLength count = (1 ≤ count) × (count ≤ 304)

-- an entry's session and the canonical text of its statement, or how many entries are lost; of what there is none of,
-- the number, the length and the count of lost ones are 0
abbrev pub Shows : Option Next → Handed → Type 0
Shows (Some (Next.Entry entry)) handed =
    (handed.number ≡ entry.session) × (handed.length ≡ length (statement_text entry.statement))
    × (take handed.length handed.text ≡ statement_text entry.statement) × (handed.lost ≡ 0)
    × IsNumber handed.number × IsLength handed.length
Shows (Some (Next.Lost count)) handed = (handed.number ≡ 0) × (handed.length ≡ 0) × (handed.lost ≡ count)
Shows (Some Next.End) handed = (handed.number ≡ 0) × (handed.length ≡ 0) × (handed.lost ≡ 0)
Shows None handed = (handed.number ≡ 0) × (handed.length ≡ 0) × (handed.lost ≡ 0)

-- the session's store and replica stay, its pass may have seen more and has tried nothing, and `next` is handed out as
-- `Hands` says
pub record HandsOut (next : Next) (old new : EndlessSession) : Type 0 where
  pub store : new.store.value ≡ old.store.value
  pub replica : new.member.replica ≡ old.member.replica
  pub seen : HasOnlySeen (known_of old.member.pass) (known_of new.member.pass)
  pub hands : Hands old.store.value.log next old.member new.member

-- `next` is handed out by the session that is held; without one, there is no next (None), and none is held afterwards
abbrev pub Follows : Option Next → Option EndlessSession → Option EndlessSession → Type 0
Follows None None None = Unit {0}
Follows (Some next) (Some old) (Some new) = HandsOut next old new
Follows next old new = ⊥
