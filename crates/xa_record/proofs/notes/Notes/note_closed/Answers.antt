use Rattle.std.{proofs.Common.{ℕ, Option, map, slice_set, ap, sym, ◌∙◌}, specs.List.insert}
use Rattle.xa_record.specs.{declared.presence.Presence.{Presence, TheVariants.Lost}, Lines.Leaves}
use Rattle.xa_record.specs.{Reading.{NumberedEvent, cause_of, up_to_return}, Kept.{numbered_kept, notes_kept}}
use Rattle.xa_record.proofs.NotedLines.{closed-so, map-insert}
use Rattle.xa_record.proofs.notes.Notes.note_closed.Goals as goal

pub returns-in_ok-insert-in-None : goal.returns-in_ok-insert-in-None
returns-in_ok-insert-in-None c =
    let session = c.args.session in
    let old = c.args.self.now in
    let one : NumberedEvent = record { number = c.args.number; told = Leaves session } in
    closed-so (notes_kept old) c.args.number session (map numbered_kept c.insert.new.self.items) _
    (ap (λ (o : Option Presence). cause_of o (Leaves session)) (sym c.presence_of.ensures) ∙ sym c.fault.ensures
    ∙ c.in-None.is)
    (ap (map numbered_kept) c.in_ok-insert-in-None.ensures.items ∙ map-insert old.numbered.items _ _
    ∙ ap (λ (n : ℕ). insert (map numbered_kept old.numbered.items) n one)
    (c.up_to_return-place.ensures.place ∙ ap (λ l. up_to_return session
    (map numbered_kept l)) c.as_slice.ensures.value))
    (ap (λ (s : ℕ). slice_set old.presence s Lost) c.get.ensures.value)
