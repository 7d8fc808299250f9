-- Where a session's last return stands.
use Rattle.std.proofs.Common.{◌≡◌, ℕ, suc, ◌+◌, ◌<◌, ◌≤◌, Bool, true, false, List, [], ◌∷◌, ◌++◌, map, length, take}
use Rattle.std.proofs.Common.{get_or, refl, ap, sym, ◌∙◌, arith, add-one}
use Rattle.std.proofs.lemmas.List.{take_more, length-take-le, length-map}
use Rattle.xa_record.specs.declared.line_event.NumberedEvent.{NumberedEvent as NumberedRead}
use Rattle.xa_record.specs.Reading.{NumberedEvent, is_return_of, one_more, up_to_return}
use Rattle.xa_record.{specs.Kept.{told_kept, numbered_kept}, proofs.EventLists.map-push}

-- once a session's last return is found (count + 1 isn't 0), one more event in front moves its place by one
more-two : (count : ℕ) (returns : Bool) → one_more (count + 1) returns ≡ count + 1 + 1
more-two count returns = rw (add-one count, add-one (suc count)) refl

-- if the last event is a return of the session, its place is the number of events
up_to_return-last : (session : ℕ) (list : List NumberedEvent) (one : NumberedEvent)
    → is_return_of session one.told ≡ true
    → up_to_return session (list ++ one ∷ []) ≡ length list + 1
unfolding up_to_return
up_to_return-last session [] one is = rw is refl
up_to_return-last session (first ∷ more) one is =
    ap (λ (n : ℕ). one_more n (is_return_of session first.told)) (up_to_return-last session more one is)
    ∙ more-two (length more) (is_return_of session first.told)
    ∙ omega arith

-- a last event that is no return of the session doesn't change where its last return stands
up_to_return-other : (session : ℕ) (list : List NumberedEvent) (one : NumberedEvent)
    → is_return_of session one.told ≡ false
    → up_to_return session (list ++ one ∷ []) ≡ up_to_return session list
unfolding up_to_return
up_to_return-other session [] one is = rw is refl
up_to_return-other session (first ∷ more) one is =
    ap (λ (n : ℕ). one_more n (is_return_of session first.told)) (up_to_return-other session more one is)

-- the first `place` events are those before the last of them, and that one
upto : (numbered : List NumberedRead) (last place : ℕ) (one : NumberedRead) → last + 1 ≡ place → last < length numbered
    → one ≡ get_or numbered last one
    → map numbered_kept (take place numbered) ≡ map numbered_kept (take last numbered) ++ numbered_kept one ∷ []
upto numbered last place one next within at =
    ap (λ (n : ℕ). map numbered_kept (take n numbered)) (sym next)
    ∙ ap (map numbered_kept) (take_more numbered last one within
    ∙ ap (λ (x : NumberedRead). take last numbered ++ x ∷ []) (sym at))
    ∙ map-push (take last numbered) one

-- an event that was read at a place is a return of the session if, and only if, the event there is one
there-is : (session : ℕ) (numbered : List NumberedRead) (last : ℕ) (one : NumberedRead) → one ≡ get_or numbered last one
    → is_return_of session (told_kept one.line_event) ≡ is_return_of session
    (told_kept (get_or numbered last one).line_event)
there-is session numbered last one at = ap (λ (n : NumberedRead). is_return_of session (told_kept n.line_event)) at

-- the loop from the last event down: this one is a return of the session, so the place behind it is the one sought
pub up_to_return-found : (whole session : ℕ) (numbered : List NumberedRead) (last place : ℕ) (one : NumberedRead)
    → last + 1 ≡ place → place ≤ length numbered
    → one ≡ get_or numbered last one → is_return_of session (told_kept (get_or numbered last one).line_event) ≡ true
    → whole ≡ up_to_return session (map numbered_kept (take place numbered)) → place ≡ whole
up_to_return-found whole session numbered last place one next within at is found =
    let long : length (map numbered_kept (take last numbered)) ≡ last =
    length-map (take last numbered) numbered_kept ∙ length-take-le last numbered (omega arith) in
    let there : up_to_return session (map numbered_kept (take last numbered) ++ numbered_kept one ∷ [])
    ≡ length (map numbered_kept (take last numbered)) + 1 =
    up_to_return-last session (map numbered_kept (take last numbered)) (numbered_kept one)
    (there-is session numbered last one at ∙ is) in
    let same = found ∙ ap (up_to_return session) (upto numbered last place one next (omega arith) at) ∙ there in
    omega (arith, same, long, next)

-- the loop from the last event down: this one is no return of the session, so the earlier ones decide
pub up_to_return-left : (whole session : ℕ) (numbered : List NumberedRead) (last place : ℕ) (one : NumberedRead)
    → last + 1 ≡ place → place ≤ length numbered
    → one ≡ get_or numbered last one → is_return_of session (told_kept (get_or numbered last one).line_event) ≡ false
    → whole ≡ up_to_return session (map numbered_kept (take place numbered))
    → whole ≡ up_to_return session (map numbered_kept (take last numbered))
up_to_return-left whole session numbered last place one next within at is found =
    found ∙ ap (up_to_return session) (upto numbered last place one next (omega arith) at)
    ∙ up_to_return-other session (map numbered_kept (take last numbered)) (numbered_kept one)
    (there-is session numbered last one at ∙ is)

-- the loop from the last event down ends: no event is left, so the session has no return
pub up_to_return-none : (whole session : ℕ) (numbered : List NumberedRead) (place : ℕ) → place ≡ 0
    → whole ≡ up_to_return session (map numbered_kept (take place numbered)) → 0 ≡ whole
unfolding up_to_return
up_to_return-none whole session numbered place is found = cc
