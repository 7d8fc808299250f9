-- A run compared with a word.
use Rattle.std.proofs.{Common.{◌≡◌, ℕ, Bool, List, IsTrue, ◌↔◌, map}, lemmas.Bool.Decides.same_from_decides}
use Rattle.std.specs.{Char.to_ascii_lowercase, Cmp.Lexicographic.bytes_decides}
use Rattle.xa_statement.specs.Token.{is_word}

-- a comparison that ignores the case of letters decides whether the run is the word
pub is_word_from : (word run : List ℕ) (answer : Bool)
    → (IsTrue answer ↔ (map to_ascii_lowercase run ≡ map to_ascii_lowercase word))
    → answer ≡ is_word word run
unfolding is_word
is_word_from word run answer same =
    same_from_decides answer _ same (bytes_decides (map to_ascii_lowercase run) (map to_ascii_lowercase word))
