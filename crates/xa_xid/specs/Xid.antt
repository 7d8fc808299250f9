-- Identity and order of transaction branch identifiers, and of the texts in them.
--     coded_text, coded_xid      how they are encoded in finite maps
use Rattle.std.specs.{Prelude.{ℕ, Bool, List, refl}, declared.cmp.Ordering.Ordering}
use Rattle.std.specs.{Ordering.{nat_cmp, ordering_then, eq_by_cmp}, Cmp.Lexicographic.slice_cmp}
use Rattle.std.specs.Coded.{Coded, code_by, coded×, coded_ℕ}
use Rattle.arrayvec.specs.ArrayVec.{ArrayVec, array_vec_code}
use Rattle.xa_xid.specs.declared.xid.Xid.{Xid}

-- a gtrid, a bqual or a value. The type sets no limit; those of a program have at most 64 bytes (`text_bytes`)
abbrev pub Text : Type 0
Text = ArrayVec ℕ

-- the order of texts: by the first byte that differs; if one begins the other, the shorter is first (own rule)
abbrev pub bytes_cmp : List ℕ → List ℕ → Ordering
bytes_cmp = slice_cmp nat_cmp

-- the order of identifiers: by formatID, then gtrid, then bqual (own rule)
abbrev pub xid_cmp : Xid → Xid → Ordering
xid_cmp a b =
    ordering_then (nat_cmp a.format_id b.format_id)
    (ordering_then (bytes_cmp a.gtrid.items b.gtrid.items) (bytes_cmp a.bqual.items b.bqual.items))

-- all three parts are the same (manual; C193)
abbrev pub same_xid : Xid → Xid → Bool
same_xid = eq_by_cmp xid_cmp

-- a text is stored as the list of its bytes
abbrev pub coded_text : Coded Text
coded_text = array_vec_code coded_ℕ

-- an identifier is stored as its three parts
abbrev pub coded_xid : Coded Xid
coded_xid =
    code_by (ℕ × (Text × Text)) (coded× coded_ℕ (coded× coded_text coded_text)) (λ x. (x.format_id, (x.gtrid, x.bqual)))
    (λ p. record { format_id = p.0; gtrid = p.1.0; bqual = p.1.1 }) (λ _. refl)
