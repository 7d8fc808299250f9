use Rattle.std.proofs.{Common.{ℕ, Option, map, slice_set, slice_get, ap, sym, ◌∙◌}, lemmas.List.map-append}
use Rattle.xa_record.specs.{declared.presence.Presence.Presence, Reading.cause_of}
use Rattle.xa_record.{specs.Kept.{told_kept, numbered_kept, notes_kept}, proofs.NotedLines.numbered-so}
use Rattle.xa_record.proofs.notes.Notes.note.Goals as goal

pub returns-in_ok-push-in-None : goal.returns-in_ok-push-in-None
returns-in_ok-push-in-None c =
    let told = told_kept c.args.line_event in
    let old = c.args.self.now in
    numbered-so (notes_kept old) c.args.number told (map numbered_kept c.push.new.self.items) _
    (ap (λ (s : ℕ). cause_of (slice_get old.presence s) told) (sym c.session-session.ensures)
    ∙ ap (λ (o : Option Presence). cause_of o told) (sym c.presence_of.ensures) ∙ sym c.fault.ensures ∙ c.in-None.is)
    (ap (map numbered_kept) c.in_ok-push-in-None.ensures.items ∙ map-append numbered_kept old.numbered.items _)
    (ap (λ (s : ℕ). slice_set old.presence s c.presence.result) (c.get.ensures.value ∙ c.session-session.ensures)
    ∙ ap (slice_set old.presence _) c.presence.ensures)
