-- What `--text` writes in place of a line.
use Rattle.std.specs.Prelude.{◌≡◌, ◌<◌, ◌⊎◌, ℕ, Bool, true, ◌==◌, ◌||◌, ◌&&◌, nat_le, if◌then◌else◌, List, [], ◌∷◌}
use Rattle.std.specs.Prelude.{◌++◌, length, Ok, Err}
use Rattle.xa_xid.specs.{Literal.{Reading, literal_ahead}, Xid.Text}

-- whether a byte is printable ASCII
abbrev pub is_printable : ℕ → Bool
is_printable byte = nat_le 32 byte && nat_le byte 126

-- whether all bytes are printable ASCII
abbrev pub are_printable : List ℕ → Bool
are_printable [] = true
are_printable (byte ∷ bytes) = is_printable byte && are_printable bytes

-- bytes between quotes: a quote and a backslash are doubled
abbrev pub between_quotes : List ℕ → List ℕ
between_quotes [] = []
between_quotes (byte ∷ bytes) =
    if byte == 39 || byte == 92 then byte ∷ byte ∷ between_quotes bytes else byte ∷ between_quotes bytes

-- the text in single quotes, as a literal
abbrev pub quoted : List ℕ → List ℕ
quoted bytes = 39 ∷ (between_quotes bytes ++ 39 ∷ [])

-- the text of a literal behind which nothing stands, where its bytes are printable; else the word itself
abbrev pub text_or : List ℕ → (bytes rest : List ℕ) → List ℕ
text_or word bytes [] = if are_printable bytes then quoted bytes else word
text_or word bytes (byte ∷ rest) = word

-- the literal's bytes in quotes, if it was read, is all of the word, and they are printable; else the word as it was
abbrev pub said_or : List ℕ → Reading Text → List ℕ
said_or word (Ok (text, rest)) = text_or word text.items rest
said_or word (Err fault) = word

-- a literal of printable bytes becomes a text in quotes, and any other word stays
abbrev pub word_text : List ℕ → List ℕ
word_text word = said_or word (literal_ahead word)

-- a space or a comma, which stands between words, or the line feed
abbrev pub is_between : ℕ → Bool
is_between byte = byte == 32 || byte == 44 || byte == 10

-- what is written for the word that begins with the bytes `word`, and for the text after these
abbrev pub texts_from : (word text : List ℕ) → List ℕ
texts_from word [] = word_text word
texts_from word (byte ∷ text) =
    if is_between byte then word_text word ++ byte ∷ texts_from [] text else texts_from (word ++ byte ∷ []) text

-- the line, with `word_text` in place of each word
abbrev pub with_texts : List ℕ → List ℕ
with_texts line = texts_from [] line

-- the line has more bytes than there is room for, which is 512
abbrev pub IsTooLong : List ℕ → Type 0
IsTooLong line = 512 < length line

-- a line is written with its literals as texts, or as it stands if there is no room for that
abbrev pub IsWithTexts : (line text : List ℕ) → Type 0
IsWithTexts line text = (text ≡ with_texts line) ⊎ ((text ≡ line) × IsTooLong (with_texts line))
