-- The reading against the grammar, both ways. It knows the grammar by what the machine's states lead to alone.
use Rattle.std.proofs.Common.{◌≡◌, ℕ, ◌+◌, ◌-◌, ◌≤◌, zero, suc, List, [], ◌∷◌, ◌++◌, length, Option, Some, None, Result}
use Rattle.std.proofs.{Common.{Ok, Err, IfOk, IfErr, ◌⊎◌, inl, inr, refl, sym, ◌∙◌, ap, arith}, Math.Nat.le_refl}
use Rattle.std.proofs.lemmas.List.{append-nil}
use Rattle.xa_xid.specs.{Bytes.{belongs, unblank}, declared.byte_class.ByteClass.TheVariants.Blank as blank_byte}
use Rattle.xa_xid.{specs.declared.statement.Statement.Statement, proofs.Shorter.behind-short}
use Rattle.xa_statement.specs.declared.{state.State.{State, TheVariants.AtFirst}, syntax_fault.SyntaxFault.SyntaxFault}
use Rattle.xa_statement.specs.{declared.token.Token.Token, FaultPlace.{FaultAt, at_token, at_end}}
use Rattle.xa_statement.specs.{Grammar.{Spells, MayGoOn}, Machine.{after_token, finish}}
use Rattle.xa_statement.{specs.Reading.{read_from, read_end, placed_in, read_of, seen_of}, proofs.Fronts.{Front, next}}
use Rattle.xa_statement.specs.Token.{Piece, pieces, tokens_of, first_piece, token_at, bare}
use Rattle.xa_statement.proofs.{Pieces.{token-short, go_on}, Viable.{said, reach, goes_on, viable, stuck, none_is_some}}
use Rattle.xa_statement.proofs.Run.{from_next, read_from-cons, read_from-nil, read_from-stop}
use Rattle.xa_statement.proofs.Walk.{walk, walk_on, walk-nil, walk-cons, answer, said_read}

-- the tokens of two lists of pieces, one behind the other, are the tokens of each
bare-append : (front back : List Piece) → bare (front ++ back) ≡ bare front ++ bare back
bare-append [] back = refl
bare-append (piece ∷ front) back = ap (λ ts. piece.0 ∷ ts) (bare-append front back)

-- an Ok isn't an Err
ok_is_err : {A B : Type 0} (a : A) (b : B) → Ok a ≡ Err b → ⊥
ok_is_err a b e = cc

-- the step of `run_on`: if from each state reading goes on past `front` to `back`, so it does from the state, if
-- there is one, to which a token before `front` leads
run_next : (reached : Option State) (left : ℕ) (front back : List Piece) (last : State)
    → walk_on reached (bare front) ≡ Some last
    → ((s : State) → walk s (bare front) ≡ Some last → read_from s (front ++ back) ≡ read_from last back)
    → from_next reached left (front ++ back) ≡ read_from last back
run_next None left front back last e each = absurd (none_is_some last e)
run_next (Some s) left front back last e each = each s e

-- reading from a state past tokens that lead to another goes on from there
run_on : (front back : List Piece) (state last : State) → walk state (bare front) ≡ Some last
    → read_from state (front ++ back) ≡ read_from last back
run_on [] back state last e =
    let some : Some state ≡ Some last = sym (walk-nil state) ∙ e in
    let same : state ≡ last = cc in ap (λ s. read_from s back) same
run_on (piece ∷ front) back state last e =
    read_from-cons state piece (front ++ back)
    ∙ run_next (after_token state piece.0) piece.1 front back last (sym (walk-cons state piece.0 (bare front)) ∙ e)
    (λ s w. run_on front back s last w)

-- reading stops at a token that leads nowhere, with so many bytes left from it on
record StopsAt (state : State) (text : List Piece) (left : ℕ) : Type 0 where
  front : List Piece
  back : List Piece
  token : Token
  last : State
  cut : text ≡ front ++ (token, left) ∷ back
  led : walk state (bare front) ≡ Some last
  stops : after_token last token ≡ None

-- reading comes to the end of the text, where no statement is whole
record StopsEnd (state : State) (text : List Piece) (left : ℕ) : Type 0 where
  last : State
  led : walk state (bare text) ≡ Some last
  unfinished : finish last ≡ None
  none_left : left ≡ 0

-- reading that fails at the end of the text failed since no statement was whole there
ended_err : (found : Option Statement) (left : ℕ) → read_end found ≡ Err left → (found ≡ None) × (left ≡ 0)
ended_err None left e = let same : 0 ≡ left = cc in (refl, sym same)
ended_err (Some statement) left e = absurd (ok_is_err statement left e)

-- reading that succeeds at the end of the text found a whole statement there
ended_ok : (found : Option Statement) (statement : Statement) → read_end found ≡ Ok statement → found ≡ Some statement
ended_ok None statement e = absurd (ok_is_err statement 0 (sym e))
ended_ok (Some other) statement e = let same : other ≡ statement = cc in ap (λ st. Some st) same

-- reading that stops behind a token stops there also in the text with that token in front
later_stop : (state next : State) (piece : Piece) (more : List Piece) (left : ℕ) → after_token state piece.0 ≡ Some next
    → StopsAt next more left ⊎ StopsEnd next more left → StopsAt state (piece ∷ more) left
    ⊎ StopsEnd state (piece ∷ more) left
later_stop state next piece more left e (inl s) = inl (record {
  front = piece ∷ s.front;
  back = s.back;
  token = s.token;
  last = s.last;
  cut = ap (λ ps. piece ∷ ps) s.cut;
  led = walk-cons state piece.0 (bare s.front) ∙ ap (λ o. walk_on o (bare s.front)) e ∙ s.led;
  stops = s.stops;
})
later_stop state next piece more left e (inr s) = inr (record {
  last = s.last;
  led = walk-cons state piece.0 (bare more) ∙ ap (λ o. walk_on o (bare more)) e ∙ s.led;
  unfinished = s.unfinished;
  none_left = s.none_left;
})

-- reading stops at a token that leads nowhere
stop_here : (state : State) (piece : Piece) (more : List Piece) (left : ℕ) → after_token state piece.0 ≡ None
    → piece.1 ≡ left
    → StopsAt state (piece ∷ more) left
stop_here state piece more left stops same = record {
  front = [];
  back = more;
  token = piece.0;
  last = state;
  cut = ap (λ n. (piece.0, n) ∷ more) same;
  led = walk-nil state;
  stops = stops;
}

-- the step of `err_stops`: if stopping is explained for the tokens behind the first, it is for all of them
err_next : (reached : Option State) (state : State) (piece : Piece) (more : List Piece) (left : ℕ)
    → after_token state piece.0 ≡ reached
    → from_next reached piece.1 more ≡ Err left
    → ((s : State) → read_from s more ≡ Err left → StopsAt s more left ⊎ StopsEnd s more left)
    → StopsAt state (piece ∷ more) left ⊎ StopsEnd state (piece ∷ more) left
err_next None state piece more left e read each = let same : piece.1 ≡ left = cc in
    inl (stop_here state piece more left e same)
err_next (Some s) state piece more left e read each = later_stop state s piece more left e (each s read)

-- reading that fails stopped at a token, or at the end of the text
err_stops : (text : List Piece) (state : State) (left : ℕ) → read_from state text ≡ Err left
    → StopsAt state text left ⊎ StopsEnd state text left
err_stops [] state left e =
    let none = ended_err (finish state) left (sym (read_from-nil state) ∙ e) in
    inr (record { last = state; led = walk-nil state; unfinished = none.0; none_left = none.1 })
err_stops (piece ∷ more) state left e =
    err_next (after_token state piece.0) state piece more left refl (sym (read_from-cons state piece more) ∙ e)
    (λ s r. err_stops more s left r)

-- each piece has at most so many bytes from it to the end
abbrev Within : ℕ → List Piece → Type 0
Within most [] = Unit {0}
Within most (piece ∷ more) = (piece.1 ≤ most) × Within most more

-- the pieces of a text, from its first on, have at most as many bytes left as the text, if those behind the first do
within_first : (fuel most : ℕ) (text : List ℕ) → length text ≤ most
    → ((rest : List ℕ) → length rest ≤ most → Within most (pieces fuel rest))
    → Within most (go_on fuel (first_piece text))
within_first fuel most [] short each = tt
within_first fuel most (byte ∷ text) short each =
    (short, each (token_at (byte ∷ text)).1 (omega (arith, token-short byte text)))

-- each piece has at most as many bytes left as the text has
within_pieces : (fuel most : ℕ) (text : List ℕ) → length text ≤ most → Within most (pieces fuel text)
unfolding pieces
within_pieces zero most text short = tt
within_pieces (suc fuel) most text short =
    within_first fuel most (unblank text) (omega (arith, behind-short (belongs blank_byte) text))
    (λ rest s. within_pieces fuel most rest s)

-- a piece anywhere among those of a text has at most as many bytes left as the text has
within_at : (most : ℕ) (front back : List Piece) (piece : Piece) → Within most (front ++ piece ∷ back) → piece.1 ≤ most
within_at most [] back piece w = w.0
within_at most (first ∷ front) back piece w = within_at most front back piece w.1

-- tokens that lead from the beginning to a state are tokens of that state
led_on : (tokens : List Token) (last : State) → walk AtFirst tokens ≡ Some last → Front last tokens
led_on tokens last e = rw e at (reach tokens AtFirst [] refl)

-- a text that is read as a statement, and whose tokens lead to a state, spells it
spelled : (text : List ℕ) (statement : Statement) → read_from AtFirst (tokens_of text) ≡ Ok statement → (last : State)
    → walk AtFirst (bare (tokens_of text)) ≡ Some last → Spells text statement
spelled text statement read last e =
    let ran : read_from AtFirst (tokens_of text ++ []) ≡ read_from last [] =
    run_on (tokens_of text) [] AtFirst last e in
    let ends : read_end (finish last) ≡ Ok statement =
    sym (read_from-nil last) ∙ sym ran ∙ ap (read_from AtFirst) (append-nil (tokens_of text)) ∙ read in
    rw (ended_ok (finish last) statement ends) at (said last (bare (tokens_of text))
    (led_on (bare (tokens_of text)) last e))

-- the step of `ok_led`: if reading behind a token gives a statement, the machine is led along the tokens behind it
ok_next : (reached : Option State) (left : ℕ) (more : List Piece) (statement : Statement)
    → from_next reached left more ≡ Ok statement
    → ((s : State) → read_from s more ≡ Ok statement → (last : State) × (walk s (bare more) ≡ Some last))
    → (last : State) × (walk_on reached (bare more) ≡ Some last)
ok_next None left more statement e each = absurd (ok_is_err statement left (sym e))
ok_next (Some s) left more statement e each = each s e

-- the tokens of a text that is read lead to a state
ok_led : (text : List Piece) (state : State) (statement : Statement) → read_from state text ≡ Ok statement
    → (last : State) × (walk state (bare text) ≡ Some last)
ok_led [] state statement e = (state, walk-nil state)
ok_led (piece ∷ more) state statement e =
    let led = ok_next (after_token state piece.0) piece.1 more statement (sym (read_from-cons state piece more) ∙ e)
    (λ s r. ok_led more s statement r) in
    (led.0, walk-cons state piece.0 (bare more) ∙ led.1)

-- a text that is read as a statement spells it
pub ok_sound : (text : List ℕ) (statement : Statement) → read_from AtFirst (tokens_of text) ≡ Ok statement
    → Spells text statement
ok_sound text statement e =
    let led = ok_led (tokens_of text) AtFirst statement e in spelled text statement e led.0 led.1

-- an answer comes from a state that was reached
some_answered : (reached : Option State) (statement : Statement) → answer reached ≡ Some statement
    → (s : State) × (reached ≡ Some s)
some_answered None statement e = absurd (none_is_some statement e)
some_answered (Some s) statement e = (s, refl)

-- a statement that is spelled is read
pub ok_complete : (text : List ℕ) (statement : Statement) → Spells text statement
    → read_from AtFirst (tokens_of text) ≡ Ok statement
ok_complete text statement s =
    let answered : answer (walk AtFirst (bare (tokens_of text))) ≡ Some statement =
    said_read (bare (tokens_of text)) statement s in
    let led = some_answered (walk AtFirst (bare (tokens_of text))) statement answered in
    let ends : finish led.0 ≡ Some statement = sym (ap answer led.1) ∙ answered in
    ap (read_from AtFirst) (sym (append-nil (tokens_of text)))
    ∙ run_on (tokens_of text) [] AtFirst led.0 led.1 ∙ read_from-nil led.0 ∙ ap read_end ends

-- a text whose tokens lead to a state that is no statement spells none
unspelled : (text : List ℕ) (last : State) → walk AtFirst (bare (tokens_of text)) ≡ Some last → finish last ≡ None
    → (statement : Statement) → Spells text statement → ⊥
unspelled text last led unfinished statement s =
    none_is_some statement (sym unfinished ∙ ap answer (sym led) ∙ said_read (bare (tokens_of text)) statement s)

-- the place at which reading stops is the text's fault: the first from which no statement can be made any more
fault_of : (text : List ℕ) (left : ℕ) → StopsAt AtFirst (tokens_of text) left ⊎ StopsEnd AtFirst (tokens_of text) left
    → FaultAt text (length text - left)
fault_of text left (inl s) =
    let within : left ≤ length text =
    within_at (length text) s.front s.back (s.token, left)
    (rw s.cut at (within_pieces (length text) (length text) text (le_refl (length text)))) in
    at_token (length text - left) left s.front s.back s.token s.cut
    (goes_on s.last (bare s.front) (led_on (bare s.front) s.last s.led))
    (stuck (bare s.front) s.token s.last s.led s.stops)
    (omega arith)
fault_of text left (inr s) =
    let place : length text ≡ length text - left = omega (arith, s.none_left) in
    rw (← place) (at_end (unspelled text s.last s.led s.unfinished)
    (goes_on s.last (bare (tokens_of text)) (led_on (bare (tokens_of text)) s.last s.led)))

-- if reading fails, its place is the text's fault
pub err_sound : (text : List ℕ) (left : ℕ) → read_from AtFirst (tokens_of text) ≡ Err left
    → FaultAt text (length text - left)
err_sound text left e = fault_of text left (err_stops (tokens_of text) AtFirst left e)

-- if no statement begins with some tokens and one more, the state after them has no next one for it
stops_there : (tokens : List Token) (token : Token) (last : State) → walk AtFirst tokens ≡ Some last
    → (MayGoOn (tokens ++ token ∷ []) → ⊥)
    → (reached : Option State) → after_token last token ≡ reached → after_token last token ≡ None
stops_there tokens token last led never None e = e
stops_there tokens token last led never (Some s) e =
    absurd (never (goes_on s (tokens ++ token ∷ []) (rw e at (next last token tokens (led_on tokens last led)))))

-- if a token is the text's fault, reading fails at that token
fault_read : (text : List ℕ) (place left : ℕ) (front back : List Piece) (token : Token)
    → tokens_of text ≡ front ++ (token, left) ∷ back
    → MayGoOn (bare front) → (MayGoOn (bare front ++ token ∷ []) → ⊥) → place + left ≡ length text
    → (found : ℕ) × ((read_from AtFirst (tokens_of text) ≡ Err found) × (place ≡ length text - found))
fault_read text place left front back token cut may never sum =
    let led = viable (bare front) may in
    let stops : after_token led.0 token ≡ None = stops_there (bare front) token led.0 led.1 never
    (after_token led.0 token) refl in
    let read : read_from AtFirst (tokens_of text) ≡ Err left =
    ap (read_from AtFirst) cut ∙ run_on front ((token, left) ∷ back) AtFirst led.0 led.1
    ∙ read_from-stop led.0 (token, left) back stops in
    (left, (read, omega arith))

-- if a text spells no statement, none is whole in the state after its tokens
unfinished_there : (text : List ℕ) (last : State) → walk AtFirst (bare (tokens_of text)) ≡ Some last
    → ((statement : Statement) → Spells text statement → ⊥)
    → (found : Option Statement) → finish last ≡ found → finish last ≡ None
unfinished_there text last led never None e = e
unfinished_there text last led never (Some statement) e =
    absurd (never statement (rw e at (said last (bare (tokens_of text)) (led_on (bare (tokens_of text)) last led))))

-- if a text is only the beginning of statements, reading fails at its end
end_read : (text : List ℕ) → ((statement : Statement) → Spells text statement → ⊥) → MayGoOn (bare (tokens_of text))
    → (found : ℕ) × ((read_from AtFirst (tokens_of text) ≡ Err found) × (length text ≡ length text - found))
end_read text never may =
    let led = viable (bare (tokens_of text)) may in
    let none : finish led.0 ≡ None = unfinished_there text led.0 led.1 never (finish led.0) refl in
    let read : read_from AtFirst (tokens_of text) ≡ Err 0 =
    ap (read_from AtFirst) (sym (append-nil (tokens_of text)))
    ∙ run_on (tokens_of text) [] AtFirst led.0 led.1 ∙ read_from-nil led.0 ∙ ap read_end none in
    (0, (read, omega arith))

-- if a text has a fault, reading fails at its place
pub err_complete : (text : List ℕ) (place : ℕ) → FaultAt text place
    → (found : ℕ) × ((read_from AtFirst (tokens_of text) ≡ Err found) × (place ≡ length text - found))
err_complete text _ (at_token place left front back token cut may never sum) =
    fault_read text place left front back token cut may never sum
err_complete text _ (at_end never may) = end_read text never may

-- what is read of a text is what is read of its tokens, with a fault's place counted in the text
read_as : (text : List ℕ) (found : Result Statement ℕ) → read_from AtFirst (tokens_of text) ≡ found
    → read_of text ≡ placed_in text found
unfolding read_of
read_as text found e = ap (placed_in text) e

-- counting places from the front instead of the end changes no statement
placed_ok : (text : List ℕ) (found : Result Statement ℕ) (statement : Statement) → placed_in text found ≡ Ok statement
    → found ≡ Ok statement
placed_ok text (Ok other) statement e = e
placed_ok text (Err left) statement e = absurd (ok_is_err statement (length text - left) (sym e))

-- counting places from the front makes the bytes that were left the place of the fault
placed_err : (text : List ℕ) (found : Result Statement ℕ) (place : ℕ) → placed_in text found ≡ Err place
    → (left : ℕ) × ((found ≡ Err left) × (length text - left ≡ place))
placed_err text (Ok statement) place e = absurd (ok_is_err statement place e)
placed_err text (Err left) place e = let same : length text - left ≡ place = cc in (left, (refl, same))

-- reading a text is reading its tokens, with the place of a fault counted in the text
found_of : (text : List ℕ) → read_of text ≡ placed_in text (read_from AtFirst (tokens_of text))
found_of text = read_as text (read_from AtFirst (tokens_of text)) refl

-- a statement is read exactly where it is spelled
pub reads_spelled : (text : List ℕ) (statement : Statement)
    → (read_of text ≡ Ok statement → Spells text statement) × (Spells text statement → read_of text ≡ Ok statement)
reads_spelled text statement = (
  λ e. ok_sound text statement (placed_ok text (read_from AtFirst (tokens_of text)) statement
      (sym (found_of text) ∙ e)),
  λ s. read_as text (Ok statement) (ok_complete text statement s),
)

-- a fault is found exactly where it stands
pub reads_fault : (text : List ℕ) (place : ℕ) → (read_of text ≡ Err place → FaultAt text place)
    × (FaultAt text place → read_of text ≡ Err place)
reads_fault text place = (
  λ e. let left = placed_err text (read_from AtFirst (tokens_of text)) place (sym (found_of text) ∙ e) in
      rw left.1.1 at (err_sound text left.0 left.1.0),
  λ f. let found = err_complete text place f in read_as text (Err found.0) found.1.0 ∙ ap (λ n. Err n) (sym found.1.1),
)

-- equal Ok have equal statements
same_ok : (one other : Statement) → ◌≡◌ {A = Result Statement ℕ} (Ok one) (Ok other) → one ≡ other
same_ok one other e = cc

-- a text spells at most one statement
pub spells_one : (text : List ℕ) (one other : Statement) → Spells text one → Spells text other → one ≡ other
spells_one text one other s t =
    let same : Ok one ≡ read_of text = sym ((reads_spelled text one).1 s) in
    let again : read_of text ≡ Ok other = (reads_spelled text other).1 t in
    same_ok one other (same ∙ again)

-- a statement that the reader returns is spelled by the text
seen_ok : (text : List ℕ) (found : Result Statement ℕ) → read_of text ≡ found → IfOk (seen_of found) (Spells text)
seen_ok text (Ok statement) e = (reads_spelled text statement).0 e
seen_ok text (Err place) e = tt

-- a fault that the reader returns is the text's
seen_err : (text : List ℕ) (found : Result Statement ℕ) → read_of text ≡ found
    → IfErr (seen_of found) (λ fault. FaultAt text fault.at)
seen_err text (Ok statement) e = tt
seen_err text (Err place) e = (reads_fault text place).0 e

-- a statement that a program gets from the reader is spelled by the text
pub seen_spelled : (text : List ℕ) (seen : Result Statement SyntaxFault) → seen ≡ seen_of (read_of text)
    → IfOk seen (Spells text)
seen_spelled text seen e = rw e (seen_ok text (read_of text) refl)

-- a fault that a program gets from the reader is the text's
pub seen_fault : (text : List ℕ) (seen : Result Statement SyntaxFault) → seen ≡ seen_of (read_of text)
    → IfErr seen (λ fault. FaultAt text fault.at)
seen_fault text seen e = rw e (seen_err text (read_of text) refl)

-- a program gets the statement that a text spells
pub spelled_seen : (text : List ℕ) (seen : Result Statement SyntaxFault) → seen ≡ seen_of (read_of text)
    → (statement : Statement) → Spells text statement
    → seen ≡ Ok statement
spelled_seen text seen e statement s = e ∙ ap seen_of ((reads_spelled text statement).1 s)

-- a program gets the fault of a text that has one
pub fault_seen : (text : List ℕ) (seen : Result Statement SyntaxFault) → seen ≡ seen_of (read_of text) → (place : ℕ)
    → FaultAt text place
    → seen ≡ Err (record { at = place })
fault_seen text seen e place f = e ∙ ap seen_of ((reads_fault text place).1 f)
