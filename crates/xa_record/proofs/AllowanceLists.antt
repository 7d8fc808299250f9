-- Allowances, one by one.
use Rattle.std.proofs.Common.{◌≡◌, ℕ, zero, suc, ◌+◌, ◌<◌, ◌≤◌, ◌==◌, Bool, true, if◌then◌else◌, Option, Result, Ok}
use Rattle.std.proofs.Common.{Err, List, [], ◌∷◌, ◌++◌, length, drop, get_or, option_to_list, refl, ap, sym, ◌∙◌, arith}
use Rattle.std.proofs.{Common.{append_assoc, append-nil}, lemmas.{List.drop_all, Grind.common_steps}}
use Rattle.xa_lines.specs.Script.{lines_of}
use Rattle.xa_record.specs.declared.{allowance.Allowance.Allowance, statement_kind.StatementKind.StatementKind}
use Rattle.xa_record.specs.Allowances.{lets_stand, allowed_for, first_allows, line_allows, allowances_in}
use Rattle.xa_record.proofs.Effects.{dropped}

-- putting an element in front if a test holds is putting it there as a list of its own
if-front : (b : Bool) (x : ℕ) (xs : List ℕ) → (if b then x ∷ xs else xs) ≡ (if b then x ∷ [] else []) ++ xs
if-front b x xs = grind (arith)

-- what several allowances allow for a number is what the first allows, and then what the others do
allowed_for-front : (one : Allowance) (more : List Allowance) (kind : StatementKind) (number : ℕ)
    → allowed_for (one ∷ more) kind number ≡ allowed_for (one ∷ []) kind number ++ allowed_for more kind number
allowed_for-front one more kind number = if-front (lets_stand one kind number) one.rules (allowed_for more kind number)

-- within a list the value for a missing element doesn't matter
get_or-within : (list : List Allowance) (index : ℕ) (any other : Allowance) → index < length list
    → get_or list index any ≡ get_or list index other
get_or-within [] index any other within = absurd (omega (arith, within))
get_or-within (first ∷ more) zero any other within = refl
get_or-within (first ∷ more) (suc index) any other within = get_or-within more index any other (omega (arith, within))

-- the loop over allowances: one more was gone through, and what it allows is at the end; the whole is that, and what
-- the allowances after it allow
pub allowed_for-next : (allowances : List Allowance) (kind : StatementKind) (number : ℕ) (whole others longer : List ℕ)
    (index : ℕ) (any : Allowance)
    → index < length allowances → whole ≡ others ++ allowed_for (drop index allowances) kind number
    → longer ≡ others ++ allowed_for (get_or allowances index any ∷ []) kind number
    → whole ≡ longer ++ allowed_for (drop (index + 1) allowances) kind number
allowed_for-next allowances kind number whole others longer index any within is parts =
    let one = get_or allowances index any in
    let at : one ≡ get_or allowances index one = get_or-within allowances index any one within in
    is ∙ ap (λ (l : List Allowance). others ++ allowed_for l kind number) (dropped allowances index one within at)
    ∙ ap (λ (l : List ℕ). others ++ l) (allowed_for-front one (drop (index + 1) allowances) kind number)
    ∙ sym (append_assoc others (allowed_for (one ∷ []) kind number)
    (allowed_for (drop (index + 1) allowances) kind number))
    ∙ ap (λ (l : List ℕ). l ++ allowed_for (drop (index + 1) allowances) kind number) (sym parts)

-- the loop over allowances ends: all were gone through, and what was collected is what all of them allow
pub allowed_for-whole : (allowances : List Allowance) (kind : StatementKind) (number : ℕ) (whole others : List ℕ)
    (index : ℕ) → length allowances ≤ index
    → whole ≡ others ++ allowed_for (drop index allowances) kind number → others ≡ whole
allowed_for-whole allowances kind number whole others index past is = grind (arith, append-nil, drop_all)

-- the allowances read before, in front of what the lines left allow; if one of these is faulty, its number
abbrev pub prepended : List Allowance → Result (List Allowance) ℕ → Result (List Allowance) ℕ
prepended list (Ok more) = Ok (list ++ more)
prepended list (Err number) = Err number

-- an allowance that a line gives, if it gives one, goes to the end of those read before
prepended-first : (list : List Allowance) (found : Option Allowance) (rest : Result (List Allowance) ℕ)
    → prepended list (first_allows (Ok found) rest) ≡ prepended (list ++ option_to_list found) rest
prepended-first list found rest = grind (arith, append-nil, append_assoc)

-- the loop over lines: one was cut off that isn't faulty, and what it allows, if anything, is at the end of the list;
-- the whole is that list, and what the lines after it allow
pub allowances_in-line : (whole : Result (List Allowance) ℕ) (list longer : List Allowance) (number : ℕ)
    (text line rest : List ℕ) (found : Option Allowance)
    → whole ≡ prepended list (allowances_in number (lines_of text)) → lines_of text ≡ line ∷ lines_of rest
    → Ok found ≡ line_allows number line
    → longer ≡ list ++ option_to_list found → whole ≡ prepended longer (allowances_in (number + 1) (lines_of rest))
unfolding allowances_in
allowances_in-line whole list longer number text line rest found is cut said parts = grind (arith, prepended-first)

-- the loop over lines: one was cut off that is faulty, so the whole is its number
pub allowances_in-faulty : (whole : Result (List Allowance) ℕ) (list : List Allowance) (number : ℕ)
    (text line rest : List ℕ) (faulty : ℕ)
    → whole ≡ prepended list (allowances_in number (lines_of text)) → lines_of text ≡ line ∷ lines_of rest
    → Err faulty ≡ line_allows number line
    → whole ≡ Err faulty
unfolding allowances_in
allowances_in-faulty whole list number text line rest faulty is cut said = cc

-- the loop over lines ends: no line is left, and the list read so far is the result
pub allowances_in-end : (whole : Result (List Allowance) ℕ) (list : List Allowance) (number : ℕ) (text : List ℕ)
    → (length text == 0) ≡ true
    → whole ≡ prepended list (allowances_in number (lines_of text)) → whole ≡ Ok list
unfolding allowances_in lines_of
allowances_in-end whole list number text empty is = grind (arith, append-nil, common_steps)
