-- The text of an entry's statement has at least one byte.
use Rattle.std.proofs.Common.{◌≤◌, ◌+◌, ◌≡◌, ℕ, List, ◌++◌, ◌∷◌, length, length-append, true, false, sym, arith}
use Rattle.std.specs.Prelude.{IsTrue, codes}
use mathlib.Core.Bool.{true≢false}
use Rattle.xa_words.specs.Entry.{may_be_entry}
use Rattle.xa_xid.specs.{XidText.{part_text, xid_text}, declared.statement.Statement.{Statement, TheVariants.Start}}
use Rattle.xa_xid.specs.declared.statement.Statement.TheVariants.{End, Prepare, Commit, Rollback, Recover, Unsupported}
use Rattle.xa_xid.specs.declared.statement.Statement.TheVariants.{Get, Put, Del, Disconnect}
use Rattle.xa_statement.specs.Canonical.{statement_text}

-- a text of two parts has a byte if the first part has one
some_before : (front back : List ℕ) → 1 ≤ length front → 1 ≤ length (front ++ back)
some_before front back some = omega (arith, some, length-append front back)

-- the text of a statement that may be logged has at least one byte
pub some_text : (statement : Statement) → IsTrue (may_be_entry statement) → 1 ≤ length (statement_text statement)
unfolding statement_text
some_text (Start xid) is = some_before (codes "XA START ") (xid_text xid) (omega arith)
some_text (End xid) is = some_before (codes "XA END ") (xid_text xid) (omega arith)
some_text (Prepare xid) is = some_before (codes "XA PREPARE ") (xid_text xid) (omega arith)
some_text (Commit xid true) is = some_before (codes "XA COMMIT ") (xid_text xid ++ codes " ONE PHASE") (omega arith)
some_text (Commit xid false) is = some_before (codes "XA COMMIT ") (xid_text xid) (omega arith)
some_text (Rollback xid) is = some_before (codes "XA ROLLBACK ") (xid_text xid) (omega arith)
some_text (Recover convert) is = absurd (true≢false (sym is))
some_text Unsupported is = absurd (true≢false (sym is))
some_text (Get key) is = some_before (codes "GET ") (part_text key) (omega arith)
some_text (Put key value) is = some_before (codes "PUT ") (part_text key ++ (44 ∷ part_text value.items)) (omega arith)
some_text (Del key) is = some_before (codes "DEL ") (part_text key) (omega arith)
some_text Disconnect is = omega arith
