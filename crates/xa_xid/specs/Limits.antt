-- How long the texts of statements are at most.
use Rattle.std.specs.Prelude.{ℕ}

-- how many bytes a text has at most: of gtrid and bqual X/Open C193's length, of keys and values our own rule
abbrev pub text_bytes : ℕ
text_bytes = 64

-- how many hexadecimal digits spell a text at most: two for each byte
abbrev pub text_digits : ℕ
text_digits = 128
