-- What was seen at a place, and its call.
use Rattle.std.proofs.Common.{◌≡◌, ℕ, ◌+◌, ◌<◌, ◌≤◌, true, false, Option, Some, None, List, length, map, take, drop}
use Rattle.std.{proofs.{Common.{get_or, arith, Result, Ok, Err}, lemmas.List.{drop_all, take-map}}, specs.Prelude.IfOk}
use Rattle.xa_record.specs.declared.line_event.NumberedEvent.{NumberedEvent as NumberedRead}
use Rattle.xa_record.specs.{declared.exchange.Exchange.Exchange as ExchangeMade, Kept.{numbered_kept, exchange_kept}}
use Rattle.xa_record.specs.Exchanges.{Exchange, is_call_by, last_call, exchange_with, exchange_at}
use Rattle.xa_record.{specs.Reading.{NumberedEvent, session_of}, proofs.{Effects.dropped, Places.slice_get-kept}}

-- the search for a session's last call: the event at this place is a call by it, so it replaces what was found before
pub call_found : (session : ℕ) (found : Option NumberedEvent) (numbered : List NumberedRead) (index : ℕ)
    (one : NumberedRead) → index < length numbered → one ≡ get_or numbered index one
    → is_call_by session (numbered_kept one).told ≡ true
    → last_call session found (map numbered_kept (drop index numbered))
    ≡ last_call session (Some (numbered_kept one)) (map numbered_kept (drop (index + 1) numbered))
unfolding last_call
call_found session found numbered index one within at calls = grind (arith, dropped)

-- the search for a session's last call: the event at this place isn't a call by it, so what was found before stays
pub call_other : (session : ℕ) (found : Option NumberedEvent) (numbered : List NumberedRead) (index : ℕ)
    (one : NumberedRead) → index < length numbered → one ≡ get_or numbered index one
    → is_call_by session (numbered_kept one).told ≡ false
    → last_call session found (map numbered_kept (drop index numbered))
    ≡ last_call session found (map numbered_kept (drop (index + 1) numbered))
unfolding last_call
call_other session found numbered index one within at calls = grind (arith, dropped)

-- the search for a session's last call ends: no event is left, and what was found, if anything, is that call
pub call_last : (session : ℕ) (whole found : Option NumberedEvent) (numbered : List NumberedRead) (index : ℕ)
    → length numbered ≤ index
    → whole ≡ last_call session found (map numbered_kept (drop index numbered)) → whole ≡ found
unfolding last_call
call_last session whole found numbered index past is = grind (arith, drop_all)

-- what is made of the event at a place, and of its session's last call before that, is the exchange at that place
pub exchange_there : (made : Exchange) (numbered : List NumberedRead) (place : ℕ) (one : NumberedRead)
    (call : Option NumberedEvent) → place < length numbered → one ≡ get_or numbered place one
    → last_call (session_of (numbered_kept one).told) None (map numbered_kept (take place numbered)) ≡ call
    → made ≡ exchange_with (numbered_kept one).told call
    → made ≡ exchange_at (map numbered_kept numbered) place
exchange_there made numbered place one call within at found is = grind (arith, session_of, slice_get-kept, take-map)

-- what the program made, if it had memory, of the event at a place and of its session's last call before that, is the
-- exchange at that place
pub shown_there : {E : Type 0} (result : Result ExchangeMade E) (numbered : List NumberedRead) (place : ℕ)
    (one : NumberedRead) (call : Option NumberedEvent) → place < length numbered → one ≡ get_or numbered place one
    → last_call (session_of (numbered_kept one).told) None (map numbered_kept (take place numbered)) ≡ call
    → IfOk result (λ made. exchange_kept made ≡ exchange_with (numbered_kept one).told call)
    → IfOk result (λ made. exchange_kept made ≡ exchange_at (map numbered_kept numbered) place)
shown_there (Ok made) numbered place one call within at found is =
    exchange_there (exchange_kept made) numbered place one call within at found is
shown_there (Err fault) numbered place one call within at found is = is
