-- A statement and its parts: the parts give the statement back, and keep its limits.
use Rattle.std.proofs.Common.{◌≡◌, ℕ, ◌<◌, ◌≤◌, ◌^◌, true, false, cond, nat_eq, IsTrue, List, [], refl, ap, sym, ◌∙◌}
use Rattle.std.proofs.Common.{arith, lit<, lit≤}
use Rattle.xa_xid.specs.declared.{xid.Xid.Xid, statement.Statement.Statement}
use Rattle.xa_words.specs.Entry.{IsText, IsXid, may_be_entry, KeepsLimits}
use Rattle.xa_words.specs.Words.{Parts, of_xid, of_texts, parts_of, RowParts}

-- the identifier that a statement's parts spell
xid_of : Parts → Xid
xid_of p = record { format_id = p.format_id; gtrid = record { items = p.first }; bqual = record { items = p.second } }

-- the statement of a kind, a formatID and two texts
statement_of : Parts → Statement
statement_of p =
    cond (nat_eq p.kind 1) (Statement.Start (xid_of p))
    (cond (nat_eq p.kind 2) (Statement.End (xid_of p))
    (cond (nat_eq p.kind 3) (Statement.Prepare (xid_of p))
    (cond (nat_eq p.kind 4) (Statement.Commit (xid_of p) false)
    (cond (nat_eq p.kind 5) (Statement.Commit (xid_of p) true)
    (cond (nat_eq p.kind 6) (Statement.Rollback (xid_of p))
    (cond (nat_eq p.kind 7) (Statement.Get p.first)
    (cond (nat_eq p.kind 8) (Statement.Put p.first (record { items = p.second }))
    (cond (nat_eq p.kind 9) (Statement.Del p.first) Statement.Disconnect))))))))

-- a statement that may be an entry is that of its parts
again : (st : Statement) → IsTrue (may_be_entry st) → statement_of (parts_of st) ≡ st
unfolding statement_of xid_of
again (Statement.Start xid) may = refl
again (Statement.End xid) may = refl
again (Statement.Prepare xid) may = refl
again (Statement.Commit xid false) may = refl
again (Statement.Commit xid true) may = refl
again (Statement.Rollback xid) may = refl
again (Statement.Recover convert) may = cc
again Statement.Unsupported may = cc
again (Statement.Get key) may = refl
again (Statement.Put key value) may = refl
again (Statement.Del key) may = refl
again Statement.Disconnect may = refl

-- statements of the same parts are one
pub one_statement : (left right : Statement) → IsTrue (may_be_entry left) → IsTrue (may_be_entry right)
    → parts_of left ≡ parts_of right → left ≡ right
one_statement left right l r same = sym (again left l) ∙ ap statement_of same ∙ again right r

-- the empty text is a text
empty : IsText []
empty = record { fits = lit≤ tt; bytes = λ i. lit< tt }

-- what the limits of a statement say of its parts
pub record Within (p : Parts) : Type 0 where
  pub low : 0 < p.kind
  pub high : p.kind ≤ 10
  pub format_id : p.format_id < 2 ^ 64
  pub first : IsText p.first
  pub second : IsText p.second
  pub none : 6 < p.kind → p.format_id ≡ 0
  pub row : 6 < p.kind → RowParts p

-- the parts of a kind from 1 to 6, with an identifier within its limits, are within the limits
xid_within : (kind : ℕ) (xid : Xid) → 0 < kind → kind ≤ 6 → IsXid xid → Within (of_xid kind xid)
xid_within kind xid low high k =
    record {
      low = low;
      high = omega arith;
      format_id = k.format_id;
      first = k.gtrid;
      second = k.bqual;
      none = λ h. absurd (omega arith);
      row = λ h. absurd (omega arith);
    }

-- the parts of a kind with two texts within their limits are within the limits
texts_within : (kind : ℕ) (first second : List ℕ) → IsText first → IsText second → RowParts (of_texts kind first second)
    → Within (of_texts kind first second)
texts_within kind first second one two row =
    record {
      low = omega (arith, row.low);
      high = row.high;
      format_id = omega arith;
      first = one;
      second = two;
      none = λ h. refl;
      row = λ h. row;
    }

-- the parts of a statement within the limits are within them
pub within : (st : Statement) → IsTrue (may_be_entry st) → KeepsLimits st → Within (parts_of st)
within (Statement.Start xid) may k = xid_within 1 xid (omega arith) (omega arith) k
within (Statement.End xid) may k = xid_within 2 xid (omega arith) (omega arith) k
within (Statement.Prepare xid) may k = xid_within 3 xid (omega arith) (omega arith) k
within (Statement.Commit xid false) may k = xid_within 4 xid (omega arith) (omega arith) k
within (Statement.Commit xid true) may k = xid_within 5 xid (omega arith) (omega arith) k
within (Statement.Rollback xid) may k = xid_within 6 xid (omega arith) (omega arith) k
within (Statement.Recover convert) may k = cc
within Statement.Unsupported may k = cc
within (Statement.Get key) may k =
    texts_within 7 key [] k.text empty
    (record {
      low = omega arith;
      high = omega arith;
      key = λ b. k.not_empty;
      no_key = λ e. absurd
          (omega arith);
      no_value = λ n. refl;
    })
within (Statement.Put key value) may k =
    texts_within 8 key value.items k.0.text k.1
    (record {
      low = omega arith;
      high = omega arith;
      key = λ b. k.0.not_empty;
      no_key = λ e. absurd
          (omega arith);
      no_value = λ n. absurd (n refl);
    })
within (Statement.Del key) may k =
    texts_within 9 key [] k.text empty
    (record {
      low = omega arith;
      high = omega arith;
      key = λ b. k.not_empty;
      no_key = λ e. absurd
          (omega arith);
      no_value = λ n. refl;
    })
within Statement.Disconnect may k =
    texts_within 10 [] [] empty empty
    (record {
      low = omega arith;
      high = omega arith;
      key = λ b. absurd
          (omega arith);
      no_key = λ e. refl;
      no_value = λ n. refl;
    })
