-- The number by which ways are told apart: if two numbers differ, so do the configurations to which the ways have come.
-- Every rule here is the project's own.
--     with_text .. with_key  a number with one more thing of that kind mixed in
use Rattle.std.specs.Prelude.{ℕ, ◌+◌, ◌*◌, ◌/◌, ◌%◌, ◌^◌, Option, Some, None, List, length, fold, bit_xor}
use Rattle.xa_xid.specs.Xid.{Text}
use Rattle.xa_server.specs.State.{State, committed_value}
use Rattle.xa_orders.specs.Orders.{Config}

-- the number with one more word mixed in; 11400714819323198485 is 2^64 divided by the golden ratio, rounded down, and
-- odd; `with` in src/marks.rt says why the 1 and the 29
unfoldable pub with_word : ℕ → ℕ → ℕ
-- a number with one more word mixed in
with_word number word =
    let product = ((bit_xor number word + 1) % 2 ^ 64 * 11400714819323198485) % 2 ^ 64 in
    bit_xor product (product / 2 ^ 29)

-- the number so far with a text mixed in: its length, and then each byte
abbrev pub with_text : ℕ → List ℕ → ℕ
with_text number bytes = fold with_word (with_word number (length bytes)) bytes

-- the number so far with a value mixed in: 1 and its text, or 0 if there is none
abbrev pub with_value : ℕ → Option Text → ℕ
with_value number None = with_word number 0
with_value number (Some text) = with_text (with_word number 1) text.items

-- the number so far with the committed value of a row mixed in
abbrev pub with_key : State → ℕ → List ℕ → ℕ
with_key state number key = with_value number (committed_value state key)

-- a configuration's number: made of what the lines were answered, and of the committed values of these rows
unfoldable pub mark : List (List ℕ) → Config → ℕ
-- a configuration's number; the keys are those of the rows that lines write
mark keys config = fold (with_key config.state) (fold with_text 0 config.answers) keys
