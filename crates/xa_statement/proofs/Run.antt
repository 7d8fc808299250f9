-- A statement read token by token, while the rest of the text gets shorter.
use Rattle.std.proofs.Common.{◌≡◌, ℕ, ◌≤◌, ◌<◌, ◌-◌, List, [], ◌∷◌, length, Option, Some, None, Result, Err, ok_or}
use Rattle.std.proofs.{Common.{true, false, ◌==◌, refl, sym, ◌∙◌, ap, arith}, lemmas.Bool.{eqb-true, eqb-false}}
use Rattle.xa_xid.specs.{Bytes.{belongs, unblank}, declared.byte_class.ByteClass.TheVariants.Blank as blank_byte}
use Rattle.xa_xid.{specs.declared.statement.Statement.Statement, proofs.Shorter.behind-short}
use Rattle.xa_statement.specs.{declared.state.State.{State, TheVariants.AtFirst}, Machine.{after_token, finish}}
use Rattle.xa_statement.specs.Reading.{read_from, read_end, placed_in, read_of, seen_of}
use Rattle.xa_statement.specs.Token.{Piece, token_at, tokens_of}
use Rattle.xa_statement.proofs.Pieces.{IsUnblank, unblank-unblank, first_token, tokens-unblank, token-short, pieces-nil}

-- what is read of further tokens from the next state on; without a next state, a fault at this place
abbrev pub from_next : Option State → ℕ → List Piece → Result Statement ℕ
from_next None left more = Err left
from_next (Some next) left more = read_from next more

-- reading fails at a token that leads nowhere
pub read_from-stop : (state : State) (piece : Piece) (more : List Piece) → after_token state piece.0 ≡ None
    → read_from state (piece ∷ more) ≡ Err piece.1
unfolding read_from
read_from-stop state piece more e = rw (e, read_from) refl

-- reading goes on behind a token that leads to a state
pub read_from-go : (state next : State) (piece : Piece) (more : List Piece) → after_token state piece.0 ≡ Some next
    → read_from state (piece ∷ more) ≡ read_from next more
unfolding read_from
read_from-go state next piece more e = rw (e, read_from) refl

-- reading takes the first token, and fails or goes on by where it leads
pub read_from-cons : (state : State) (piece : Piece) (more : List Piece)
    → read_from state (piece ∷ more) ≡ from_next (after_token state piece.0) piece.1 more
read_from-cons state piece more =
    elim (after_token state piece.0) as (λ o. after_token state piece.0 ≡ o
    → read_from state (piece ∷ more) ≡ from_next o piece.1 more) [
      | None ↦ λ e. read_from-stop state piece more e
      | Some next ↦ λ e. read_from-go state next piece more e
    ] refl

-- at the end of the tokens the state decides whether a statement was read
pub read_from-nil : (state : State) → read_from state [] ≡ read_end (finish state)
unfolding read_from
read_from-nil state = refl

-- reading a text has come to this state and this rest, which begins with no blank: what is read of the rest from the
-- state is what is read of the whole text
pub record ReadBefore (text : List ℕ) (state : State) (rest : List ℕ) : Type 0 where
  pub within : length rest ≤ length text
  pub front : IsUnblank rest
  pub same : read_from state (tokens_of rest) ≡ read_from AtFirst (tokens_of text)

-- before the first token everything is left but leading blanks
pub read_start : (text rest : List ℕ) → rest ≡ unblank text → ReadBefore text AtFirst rest
read_start text rest e = rw e (record {
  within = behind-short (belongs blank_byte) text;
  front = unblank-unblank text;
  same = ap (read_from AtFirst) (tokens-unblank text);
})

-- reading a rest that isn't empty takes its first token, and goes on from the state after it
pub step_of : (state : State) (rest : List ℕ) → 0 < length rest → IsUnblank rest
    → read_from state (tokens_of rest) ≡ from_next (after_token state (token_at rest).0) (length rest)
    (tokens_of (token_at rest).1)
step_of state [] some is = absurd (omega arith)
step_of state (byte ∷ rest) some is = ap (read_from state) (first_token byte rest is) ∙ read_from-cons state _ _

-- each step of the loop leaves less
pub rest-short : (rest : List ℕ) → 0 < length rest → length (unblank (token_at rest).1) < length rest
rest-short [] some = absurd (omega arith)
rest-short (byte ∷ rest) some =
    let tail = (token_at (byte ∷ rest)).1 in
    omega (arith, token-short byte rest, behind-short (belongs blank_byte) tail)

-- the loop over tokens: if the first token of the rest leads to a state, reading has come to that state and to what
-- is left behind the token and blanks
pub read_step : (text rest later : List ℕ) (state next : State) → 0 < length rest
    → after_token state (token_at rest).0 ≡ Some next
    → later ≡ unblank (token_at rest).1 → ReadBefore text state rest → ReadBefore text next later
read_step text rest later state next some steps e before =
    let shorter : length (unblank (token_at rest).1) < length rest = rest-short rest some in
    let within : length rest ≤ length text = before.within in
    rw e (record {
      within = omega arith;
      front = unblank-unblank (token_at rest).1;
      same =
          ap (read_from next) (tokens-unblank (token_at rest).1)
          ∙ ap (λ o. from_next o (length rest) (tokens_of (token_at rest).1)) (sym steps)
          ∙ sym (step_of state rest some before.front)
          ∙ before.same;
    })

-- what the machine reads of a text's tokens is what the reader returns, with a fault's place counted from the front
pub seen : (text : List ℕ) (found : Result Statement ℕ) → read_from AtFirst (tokens_of text) ≡ found
    → seen_of (read_of text) ≡ seen_of (placed_in text found)
unfolding read_of
seen text found e = ap (λ r. seen_of (placed_in text r)) e

-- the loop ends at a token that leads nowhere: that is the fault, at its place
pub read_stop : (text rest : List ℕ) (state : State) → 0 < length rest → after_token state (token_at rest).0 ≡ None
    → ReadBefore text state rest
    → Err (record { at = length text - length rest }) ≡ seen_of (read_of text)
read_stop text rest state some stops before =
    sym (seen text (Err (length rest))
    (sym before.same ∙ step_of state rest some before.front
    ∙ ap (λ o. from_next o (length rest) (tokens_of (token_at rest).1)) stops))

-- at the end of the text the fault's place is the text's length
ended_as : (text : List ℕ) (found : Option Statement) → seen_of (placed_in text (read_end found))
    ≡ ok_or found (record { at = length text })
ended_as text (Some statement) = refl
ended_as text None = ap (λ n. Err (record { at = n })) (omega arith)

-- at the end of the text the state decides whether a statement was read
pub read_all : (state : State) (rest : List ℕ) → length rest ≡ 0
    → read_from state (tokens_of rest) ≡ read_end (finish state)
read_all state [] none = ap (read_from state) (pieces-nil 0) ∙ read_from-nil state
read_all state (byte ∷ rest) none = absurd (omega arith)

-- at the end of the text, what the state says is what the reader returns
pub read_finish : (text rest : List ℕ) (state : State) → length rest ≡ 0 → ReadBefore text state rest
    → ok_or (finish state) (record { at = length text }) ≡ seen_of (read_of text)
read_finish text rest state none before =
    sym (ended_as text (finish state)) ∙ sym (seen text (read_end (finish state))
    (sym before.same ∙ read_all state rest none))

-- a text whose length isn't 0 has a byte left
pub some_left : (rest : List ℕ) → false ≡ (length rest == 0) → 0 < length rest
some_left rest e = let some : length rest ≡ 0 → ⊥ = eqb-false _ _ (sym e) in omega arith

-- a text whose length is 0 has no byte left
pub none_left : (rest : List ℕ) → true ≡ (length rest == 0) → length rest ≡ 0
none_left rest e = eqb-true _ _ (sym e)
