-- When the verdict on a global transaction is MIXED.
use Rattle.std.{proofs.Common.{◌≡◌, ◌↔◌, List, refl, Bool, true, false}, specs.Prelude.{◌&&◌, if◌then◌else◌}}
use Rattle.std.specs.List.{list_any}
use Rattle.xa_audit.specs.declared.{branch.Branch.Branch, verdict.Verdict.TheVariants.{Atomic, Mixed, InDoubt, Open}}
use Rattle.xa_audit.specs.Globals.{took, failed, ends_as, is_in_doubt, is_open, verdict_of}

-- if a verdict is MIXED, its two conditions hold
by_parts : (a b c d : Bool) → (if a && b then Mixed else (if c then InDoubt else (if d then Open else Atomic))) ≡ Mixed
    → (a ≡ true) × (b ≡ true)
by_parts true true c d e = (refl, refl)
by_parts true false true d e = absurd (cc)
by_parts true false false true e = absurd (cc)
by_parts true false false false e = absurd (cc)
by_parts false b true d e = absurd (cc)
by_parts false b false true e = absurd (cc)
by_parts false b false false e = absurd (cc)

-- if its two conditions hold, a verdict is MIXED
parts_by : (a b c d : Bool) → a ≡ true → b ≡ true → (if a
    && b then Mixed else (if c then InDoubt else (if d then Open else Atomic))) ≡ Mixed
parts_by a b c d p q = cc

-- MIXED stands if, and only if, one branch took effect and another failed
pub mixed_iff : (branches : List Branch) → (verdict_of branches ≡ Mixed)
    ↔ ((list_any took branches ≡ true) × (list_any failed branches ≡ true))
mixed_iff branches = (
  by_parts (list_any took branches) (list_any failed branches) (list_any (ends_as is_in_doubt) branches)
      (list_any (ends_as is_open) branches),
  λ both.
      parts_by (list_any took branches) (list_any failed branches) (list_any (ends_as is_in_doubt) branches)
      (list_any (ends_as is_open) branches) both.0
      both.1,
)
