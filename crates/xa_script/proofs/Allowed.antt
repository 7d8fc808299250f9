-- What holds of the bytes that a reader gave until it was at its end holds of all that it had.
use Rattle.std.proofs.Common.{◌++◌, ◌∙◌, ℕ, Option, Some, None, List, IfSome, ap, sym, subst, append-nil}
use Rattle.std.specs.Io.KnownBytes.{Consumes, IsAtEnd}

-- what holds of the bytes that were read up to the end holds of all that the reader had, if that is known
pub read_whole : (P : List ℕ → Type 0) (input rest : Option (List ℕ)) (given : List ℕ) → Consumes input rest given
    → IsAtEnd rest → P given → IfSome input P
read_whole P None rest given read end p = tt
read_whole P (Some all) None given read end p = absurd read
read_whole P (Some all) (Some more) given read end p =
    subst P (sym (read ∙ ap (λ bytes. given ++ bytes) end ∙ append-nil given)) p
