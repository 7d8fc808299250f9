-- Kinds of bytes, and how a text is cut after the last byte of a kind.
--     belongs kind byte      whether the byte is of the kind
--     front p text           the longest beginning of bytes that pass
--     behind p text          the rest of the text after them
--     only p text            whether all bytes pass
--     unblank text           the text from its first byte on that isn't a blank
--     run text, after_run text      the word bytes that a text begins with, and the rest after them
--     StartsNo p text        the text is empty, or its first byte doesn't pass
use Rattle.std.specs.Prelude.{◌≡◌, ℕ, Bool, false, ◌==◌, ◌||◌, ◌&&◌, nat_le, if◌then◌else◌, List, [], ◌∷◌, length}
use Rattle.std.specs.Char.{is_digit}
use Rattle.xa_xid.specs.declared.byte_class.ByteClass.{ByteClass, TheVariants.{Blank, Word, Decimal, Hexadecimal}}

-- space, tab, line feed, carriage return (own rule)
abbrev pub is_blank : ℕ → Bool
is_blank byte = byte == 32 || byte == 9 || byte == 10 || byte == 13

-- letters, digits, underscore, dollar and every byte from 128 on (own rule)
abbrev pub is_word : ℕ → Bool
is_word byte = (nat_le 65 byte && nat_le byte 90) || (nat_le 97 byte && nat_le byte 122) ||
    (nat_le 48 byte && nat_le byte 57) || byte == 95 || byte == 36 || nat_le 128 byte

-- whether the byte is of the kind
unfoldable pub belongs : ByteClass → ℕ → Bool
belongs Blank byte = is_blank byte
belongs Word byte = is_word byte
belongs Decimal byte = is_digit byte 10
belongs Hexadecimal byte = is_digit byte 16

-- the longest beginning of a text whose bytes all pass p
unfoldable pub front : (ℕ → Bool) → List ℕ → List ℕ
front p [] = []
front p (byte ∷ text) = if p byte then byte ∷ front p text else []

-- the rest of a text from its first byte on that doesn't pass p
unfoldable pub behind : (ℕ → Bool) → List ℕ → List ℕ
behind p [] = []
behind p (byte ∷ text) = if p byte then behind p text else byte ∷ text

-- whether all bytes of a text pass p
abbrev pub only : (ℕ → Bool) → List ℕ → Bool
only p text = length (behind p text) == 0

-- the text from the first byte on that isn't a blank
abbrev pub unblank : List ℕ → List ℕ
unblank text = behind (belongs Blank) text

-- the word bytes that the text begins with
abbrev pub run : List ℕ → List ℕ
run text = front (belongs Word) text

-- the rest of the text behind the word bytes that it begins with; all of it if it begins with none
abbrev pub after_run : List ℕ → List ℕ
after_run text = behind (belongs Word) text

-- the text is empty, or its first byte doesn't pass p
abbrev pub StartsNo : (ℕ → Bool) → List ℕ → Type 0
StartsNo p [] = Unit {0}
StartsNo p (byte ∷ text) = p byte ≡ false
