-- One more identifier is laid out.
use Rattle.std.proofs.Common.{◌≡◌, ℕ, ◌+◌, ◌<◌, ◌≤◌, List, length, get_or, set, sym, ap, ◌∙◌, subst, arith}
use Rattle.std.proofs.lemmas.List.{get_or-set_same, get_or-set_other}
use mathlib.Core.Logic.{dite}
use Rattle.xa_xid.specs.declared.xid.Xid.{Xid}
use Rattle.nigbaru_c.specs.{declared.xid_part.XidPart.XidPart, Telling.IsLaid}
use native.Mathlib.Decide.{ℕ_discrete}

-- with the identifier at a place laid out, all up to it are, if those before it were
pub laid_more : (xids : List Xid) (parts : List XidPart) (i : ℕ) (v : XidPart) → i < length parts
    → ((d : Xid) → IsLaid (get_or xids i d) v)
    → ((k : ℕ) (d : Xid) (e : XidPart) → k < i → IsLaid (get_or xids k d) (get_or parts k e))
    → (k : ℕ) (d : Xid) (e : XidPart) → k < i + 1 → IsLaid (get_or xids k d) (get_or (set parts i v) k e)
laid_more xids parts i v within new old k d e below =
    dite (ℕ_discrete k i)
    (λ is. subst (λ (part : XidPart). IsLaid (get_or xids k d) part)
    (sym (ap (λ n. get_or (set parts i v) n e) is ∙ get_or-set_same parts i v e within))
    (subst (λ (n : ℕ). IsLaid (get_or xids n d) v) (sym is) (new d)))
    (λ other. subst (λ (part : XidPart). IsLaid (get_or xids k d) part) (sym (get_or-set_other parts i k v e other))
    (old k d e (omega (arith, below, other))))

-- what stands behind a place is still as it was at first after a write there
pub kept_more : (parts first : List XidPart) (i : ℕ) (v : XidPart)
    → ((k : ℕ) (e : XidPart) → i ≤ k → get_or parts k e ≡ get_or first k e)
    → (k : ℕ) (e : XidPart) → i + 1 ≤ k → get_or (set parts i v) k e ≡ get_or first k e
kept_more parts first i v old k e above =
    get_or-set_other parts i k v e (λ is. omega (arith, above, is)) ∙ old k e (omega (arith, above))
