-- The laws of the orders: they are total, and only equal values tie.
use Rattle.std.proofs.{Common.{◌≡◌, ℕ, List, ap, sym, ◌∙◌}, lemmas.Cmp.{on_total, then_total, tied_itself}}
use Rattle.std.proofs.lemmas.Map.Lookups.{CmpEqualImpliesEq, exact_unsigned, exact_bytes, exact_pairs}
use Rattle.std.specs.Cmp.{IsTotalOrder, nat_cmp_total, Lexicographic.nat_list_cmp_total}
use Rattle.std.specs.{Ordering.{nat_cmp, ordering_then}, declared.cmp.Ordering.{Ordering, TheVariants.Equal}}
use Rattle.xa_xid.specs.{declared.xid.Xid.Xid, Xid.{bytes_cmp, xid_cmp}}

-- texts are ordered byte by byte: any two compare, one way
pub bytes_total : IsTotalOrder bytes_cmp
bytes_total = nat_list_cmp_total

-- only equal texts compare as equal
pub exact_texts : CmpEqualImpliesEq bytes_cmp
exact_texts = exact_bytes

-- identifiers are ordered, by formatID, gtrid and bqual: any two compare, one way
pub xids_total : IsTotalOrder xid_cmp
xids_total =
    then_total (on_total (λ x. x.format_id) nat_cmp_total)
    (then_total (on_total (λ x. x.gtrid.items) bytes_total) (on_total (λ x. x.bqual.items) bytes_total))

-- an identifier as its three parts: formatID, gtrid, bqual
parts : Xid → ℕ × (List ℕ × List ℕ)
parts x = (x.format_id, (x.gtrid.items, x.bqual.items))

-- the identifier of its three parts
whole : ℕ × (List ℕ × List ℕ) → Xid
whole p = record { format_id = p.0; gtrid = record { items = p.1.0 }; bqual = record { items = p.1.1 } }

-- identifiers that compare as equal are one
pub exact_xids : CmpEqualImpliesEq xid_cmp
unfolding parts whole
exact_xids a b h =
    ap whole
    (exact_pairs nat_cmp (λ (x y : List ℕ × List ℕ). ordering_then (bytes_cmp x.0 y.0)
    (bytes_cmp x.1 y.1)) exact_unsigned
    (exact_pairs bytes_cmp bytes_cmp exact_bytes exact_bytes) (parts a) (parts b) h)

-- in a total order in which only equal values tie, a tie is an equation
pub ties_exactly : {K : Type 0} (R : K → K → Ordering) → IsTotalOrder R → CmpEqualImpliesEq R → (r : Ordering) (a b : K)
    → r ≡ R a b
    → (r ≡ Equal → a ≡ b) × (a ≡ b → r ≡ Equal)
ties_exactly R total exact r a b is = (λ e. exact a b (sym is ∙ e), λ e. is ∙ rw (← e) (tied_itself total a))
