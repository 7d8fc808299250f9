-- Text literals: what is written between two quotes, and the bytes that it stands for.
--     escaped letter         what a backslash and the letter stand for
--     Quoted quote written bytes     `written`, up to and with the closing quote, stands for `bytes`
--     QuotedAt quote text bytes rest     the same of the beginning of a text, and `rest` comes after it
--     read_in_quotes quote mode text  how it is read, byte by byte
use Rattle.std.specs.Prelude.{◌≡◌, ◌≢◌, ℕ, ◌==◌, if◌then◌else◌, List, [], ◌∷◌, ◌++◌, Option, Some, None}
use Rattle.xa_xid.specs.{Bytes.StartsNo, declared.quoted.Mode.{Mode, TheVariants.{Plain, Escape, Quote}}}

-- what a backslash and a letter stand for; upper and lower case differ (manual, 'String Literals')
unfoldable pub escaped : ℕ → List ℕ
escaped letter =
    if letter == 48 then 0 ∷ [] else  -- \0
    if letter == 98 then 8 ∷ [] else  -- \b
    if letter == 110 then 10 ∷ [] else  -- \n
    if letter == 114 then 13 ∷ [] else  -- \r
    if letter == 116 then 9 ∷ [] else  -- \t
    if letter == 90 then 26 ∷ [] else  -- \Z
    if letter == 37 then 92 ∷ 37 ∷ [] else  -- \%
    if letter == 95 then 92 ∷ 95 ∷ [] else  -- \_
    letter ∷ []  -- \' \" \\ and any other: that byte

-- the text up to and with the closing quote, and the bytes that it stands for
pub data Quoted (quote : ℕ) : List ℕ → List ℕ → Type 0 where
  close : Quoted quote (quote ∷ []) []
  doubled : {written bytes : List ℕ} → Quoted quote written bytes
      → Quoted quote (quote ∷ quote ∷ written) (quote ∷ bytes)
  escape : (letter : ℕ) {written bytes : List ℕ} → Quoted quote written bytes
      → Quoted quote (92 ∷ letter ∷ written) (escaped letter ++ bytes)
  plain : (byte : ℕ) {written bytes : List ℕ} → byte ≢ quote → byte ≢ 92 → Quoted quote written bytes
      → Quoted quote (byte ∷ written) (byte ∷ bytes)

-- the text begins with what is written up to and with the closing quote, and `rest` comes after it; the closing quote
-- isn't the first of two
pub record QuotedAt (quote : ℕ) (text bytes rest : List ℕ) : Type 0 where
  pub written : List ℕ
  pub form : Quoted quote written bytes
  pub cut : text ≡ written ++ rest
  pub last : StartsNo (λ byte. byte == quote) rest

-- some bytes put in front of those that were read
abbrev pub onto : List ℕ → Option (List ℕ × List ℕ) → Option (List ℕ × List ℕ)
onto first None = None
onto first (Some (bytes, rest)) = Some (first ++ bytes, rest)

-- reading goes on between quotes, by what was read last: the bytes and the text after the closing quote; none if no
-- quote closes
unfoldable pub read_in_quotes : ℕ → Mode → List ℕ → Option (List ℕ × List ℕ)
read_in_quotes quote Plain [] = None
read_in_quotes quote Plain (byte ∷ text) =
    if byte == quote then read_in_quotes quote Quote text else
    if byte == 92 then read_in_quotes quote Escape text else
    onto (byte ∷ []) (read_in_quotes quote Plain text)
read_in_quotes quote Escape [] = None
read_in_quotes quote Escape (letter ∷ text) = onto (escaped letter) (read_in_quotes quote Plain text)
read_in_quotes quote Quote [] = Some ([], [])
read_in_quotes quote Quote (byte ∷ text) =
    if byte == quote then onto (quote ∷ []) (read_in_quotes quote Plain text) else Some ([], byte ∷ text)
