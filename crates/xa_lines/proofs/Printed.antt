-- Printing the rows of XA RECOVER one after another.
use Rattle.std.proofs.Common.{◌≡◌, ℕ, ◌+◌, ◌<◌, Bool, List, [], ◌∷◌, ◌++◌, length, get_or, take, refl, sym, ◌∙◌, ap}
use Rattle.std.proofs.{Common.{append_assoc, append-nil, codes, arith}, lemmas.{List.take_more, Bool.Decides.nat_tests}}
use Rattle.std.proofs.lemmas.Grind.{common_steps}
use Rattle.xa_xid.specs.declared.xid.Xid.{Xid}
use Rattle.xa_lines.specs.Printed.{row_text, rows_text}

-- the text of two joined lists of rows is the text of the first and then that of the second
rows_text-append : (convert : Bool) (xids more : List Xid)
    → rows_text convert (xids ++ more) ≡ rows_text convert xids ++ rows_text convert more
rows_text-append convert [] more = refl
rows_text-append convert (xid ∷ xids) more =
    ap (λ text. codes "\n" ++ row_text convert xid ++ text) (rows_text-append convert xids more)
    ∙ sym (append_assoc (codes "\n" ++ row_text convert xid) (rows_text convert xids) (rows_text convert more))

-- the loop over rows: after one more is written, all rows up to it are
pub rows_text-more : (convert : Bool) (xids : List Xid) (i : ℕ) (xid : Xid) (begin before now : List ℕ)
    → i < length xids → xid ≡ get_or xids i xid
    → before ≡ begin ++ rows_text convert (take i xids)
    → now ≡ before ++ codes "\n" ++ row_text convert xid → now ≡ begin ++ rows_text convert (take (i + 1) xids)
rows_text-more convert xids i xid begin before now within is was step =
    grind (arith, common_steps, nat_tests, append-nil, append_assoc, rows_text-append, take_more)
