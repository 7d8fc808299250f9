-- The head of a text, by which most texts are told apart.
--     head_of text      its first eight bytes as one number
use Rattle.std.specs.{Prelude.{ℕ, List, [], ◌∷◌, slice_index}, Int.{w64, from_be_bytes}}

-- the first eight bytes as one number, the first byte highest, zeros past the text's end
unfoldable pub head_of : List ℕ → ℕ
head_of text =
    from_be_bytes w64
    (slice_index text 0 ∷ slice_index text 1 ∷ slice_index text 2 ∷ slice_index text 3 ∷ slice_index text 4
    ∷ slice_index text 5 ∷ slice_index text 6
    ∷ slice_index text 7 ∷ [])
