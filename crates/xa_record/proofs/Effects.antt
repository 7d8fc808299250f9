-- The lines of an order, as a loop over its moves writes them.
use Rattle.std.proofs.Common.{◌≡◌, ℕ, ◌+◌, ◌<◌, ◌≤◌, Option, Some, List, [], ◌∷◌, ◌++◌, length, map, drop, get_or}
use Rattle.std.proofs.Common.{slice_get, refl, ap, sym, ◌∙◌, arith, add-one, append_assoc, append-nil}
use Rattle.std.proofs.{Math.Seq.drop-cons, lemmas.{List.{drop_all, length-map, map-set}, Option.slice_get-map}}
use Rattle.std.specs.{List.drop-map, Option.option_map}
use Rattle.xa_judge.specs.declared.moves.{Act.Act, Move.{Move, TheVariants.{Event as Seeing, Effect}}}
use Rattle.xa_record.specs.{declared.line_event.NumberedEvent.NumberedEvent as NumberedRead, Reading.NumberedEvent}
use Rattle.xa_record.specs.{declared.last_calls.LastCalls.LastCalls, VerdictText.{with_call, effect_text, order_text}}
use Rattle.xa_record.specs.{Kept.{told_kept, text_told, text_at, numbered_kept, calls_kept, with_place}, Lines.Told}
use Rattle.xa_record.proofs.Places.{text_at-kept}

-- if this is what the list of places has for a session, the list of their texts has the text of the call there, which
-- is empty if there is no place
pub text_of_last : (all : List NumberedEvent) (places : List (Option ℕ)) (session : ℕ) (place : Option ℕ)
    → slice_get places session ≡ Some place
    → slice_get (map (text_at all) places) session ≡ Some (text_at all place)
text_of_last all places session place at = slice_get-map (text_at all) places session ∙ ap (option_map (text_at all)) at

-- once the line of an effect is written, what is left to write is the order's rest
pub moved_effect : (out new : List ℕ) (calls : List (List ℕ)) (numbered : List NumberedEvent) (session : ℕ) (act : Act)
    (moves : List Move)
    → new ≡ out ++ effect_text calls session act
    → out ++ order_text calls numbered (Effect session act ∷ moves) ≡ new ++ order_text calls numbered moves
unfolding order_text
moved_effect out new calls numbered session act moves written = grind (arith, append_assoc)

-- where no event is left, a move that goes over one writes nothing
pub moved_over : (out : List ℕ) (calls : List (List ℕ)) (moves : List Move)
    → out ++ order_text calls [] (Seeing ∷ moves) ≡ out ++ order_text calls [] moves
unfolding order_text
moved_over out calls moves = refl

-- a move that goes over an event writes nothing; if the event is a call, its text goes to its session's place
pub moved_event : (out : List ℕ) (calls new : List (List ℕ)) (one : NumberedEvent) (more : List NumberedEvent)
    (moves : List Move) → new ≡ with_call one.told calls
    → out ++ order_text calls (one ∷ more) (Seeing ∷ moves) ≡ out ++ order_text new more moves
unfolding order_text
moved_event out calls new one more moves next = ap (λ c. out ++ order_text c more moves) (sym next)

-- a list from a place on is the element there, and then the list from the next place on
pub dropped : {A : Type 0} (list : List A) (index : ℕ) (next : A) → index < length list → next ≡ get_or list index next
    → drop index list ≡ next ∷ drop (index + 1) list
dropped list index next within at = grind (arith, add-one, drop-cons)

-- the loop over moves ends: no move is left, and all lines of the order are written
pub moved_whole : (whole out : List ℕ) (calls : List (List ℕ)) (numbered : List NumberedEvent) (moves : List Move)
    (index : ℕ) → length moves ≤ index
    → whole ≡ out ++ order_text calls numbered (drop index moves) → out ≡ whole
unfolding order_text
moved_whole whole out calls numbered moves index past is = grind (arith, append-nil, drop_all)

-- the program's events from a place on, in the definitions' form, are the one there and then those from the next place
-- on
mapped : (numbered : List NumberedRead) (place : ℕ) (one : NumberedRead) → place < length numbered
    → one ≡ get_or numbered place one
    → drop place (map numbered_kept numbered) ≡ numbered_kept one ∷ drop (place + 1) (map numbered_kept numbered)
mapped numbered place one within at =
    drop-map numbered_kept place numbered ∙ ap (map numbered_kept) (dropped numbered place one within at)
    ∙ ap (λ l. numbered_kept one ∷ l) (sym (drop-map numbered_kept (place + 1) numbered))

-- noting the place of an event, if it is a call, gives the same texts of last calls as putting in the call's text
calls-followed : (all : List NumberedEvent) (places : List (Option ℕ)) (place : ℕ) (told : Told)
    → text_at all (Some place) ≡ text_told told
    → map (text_at all) (with_place place told places) ≡ with_call told (map (text_at all) places)
calls-followed all places place told at = grind (arith, map-set)

-- the loop over moves, in the program's form of the list: after a move over the event at this place, which is noted if
-- the event is a call, the lines left to write are those of the moves left
pub moved_event_at : (out : List ℕ) (old new : LastCalls) (numbered : List NumberedRead) (place : ℕ)
    (one : NumberedRead) (moves : List Move)
    → place < length numbered → one ≡ get_or numbered place one
    → new.places ≡ with_place place (told_kept one.line_event) old.places
    → out ++ order_text (calls_kept (map numbered_kept numbered) old) (drop place (map numbered_kept numbered))
    (Seeing ∷ moves)
    ≡ out ++ order_text (calls_kept (map numbered_kept numbered) new)
    (drop (place + 1) (map numbered_kept numbered)) moves
moved_event_at out old new numbered place one moves within at next =
    grind (arith, calls-followed, mapped, moved_event, text_at-kept)

-- past the last event a move that goes over an event writes nothing
pub moved_over_at : (out : List ℕ) (calls : List (List ℕ)) (numbered : List NumberedRead) (place : ℕ)
    (moves : List Move) → length numbered ≤ place
    → out ++ order_text calls (drop place (map numbered_kept numbered)) (Seeing ∷ moves) ≡ out
    ++ order_text calls (drop place (map numbered_kept numbered)) moves
moved_over_at out calls numbered place moves past = grind (arith, drop_all, length-map, moved_over)
