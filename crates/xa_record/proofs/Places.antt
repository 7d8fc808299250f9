-- What stands at a place of what happens, in the list as the program keeps it.
use Rattle.std.proofs.Common.{◌≡◌, ℕ, ◌<◌, ◌≤◌, Some, None, List, [], length, map, get_or, slice_get, refl, ap, sym}
use Rattle.std.proofs.{Common.◌∙◌, lemmas.Option.{slice_get-map, slice_get_read, slice_get_past}}
use Rattle.std.specs.Option.{option_map}
use Rattle.xa_record.specs.declared.line_event.NumberedEvent.{NumberedEvent as NumberedRead}
use Rattle.xa_record.specs.Kept.{told_kept, text_told, text_numbered, text_at, numbered_kept}

-- at a place within the program's list, the definition's list has what that one has there, in the definition's form
pub slice_get-kept : (numbered : List NumberedRead) (place : ℕ) (one : NumberedRead) → place < length numbered
    → one ≡ get_or numbered place one
    → slice_get (map numbered_kept numbered) place ≡ Some (numbered_kept one)
slice_get-kept numbered place one within at =
    slice_get-map numbered_kept numbered place ∙ ap (option_map numbered_kept)
    (slice_get_read numbered (length numbered) place one refl within at)

-- past the end of the program's list the definition's list has nothing either
pub slice_get-kept_past : (numbered : List NumberedRead) (place : ℕ) → length numbered ≤ place
    → slice_get (map numbered_kept numbered) place ≡ None
slice_get-kept_past numbered place past =
    slice_get-map numbered_kept numbered place ∙ ap (option_map numbered_kept) (slice_get_past numbered place past)

-- the text of the call at a place is that of what the program's list has there
pub text_at-kept : (numbered : List NumberedRead) (place : ℕ) (one : NumberedRead) → place < length numbered
    → one ≡ get_or numbered place one
    → text_told (told_kept one.line_event) ≡ text_at (map numbered_kept numbered) (Some place)
text_at-kept numbered place one within at = sym (ap text_numbered (slice_get-kept numbered place one within at))

-- past the last event nothing is called for
pub text_at-kept_past : (numbered : List NumberedRead) (place : ℕ) → length numbered ≤ place
    → [] ≡ text_at (map numbered_kept numbered) (Some place)
text_at-kept_past numbered place past = sym (ap text_numbered (slice_get-kept_past numbered place past))
