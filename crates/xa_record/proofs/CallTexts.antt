-- What is written where nothing is called for.
use Rattle.std.proofs.Common.{◌≡◌, ℕ, List, [], ◌++◌, refl, ap, sym, ◌∙◌, append-nil}
use Rattle.xa_statement.specs.{Token.pieces, Machine.finish, Reading.{read_of, read_from}}
use Rattle.xa_record.specs.VerdictText.{call_text}

-- nothing is written for an empty text
call_text-none : call_text [] ≡ []
unfolding read_of read_from pieces finish
call_text-none = refl

-- what is written for an empty text leaves what stands before it as it is
pub append-call_text-none : (out : List ℕ) → out ≡ out ++ call_text []
append-call_text-none out = sym (ap (λ t. out ++ t) call_text-none ∙ append-nil out)
