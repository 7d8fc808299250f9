-- What is true of each element of a list.
use Rattle.std.proofs.Common.{◌≡◌, ◌<◌, List, length, get_or, arith}
use Rattle.std.{proofs.lemmas.List.Elements.{All-get_or, AllZip-get_or, length_all_zip}, specs.List.{All, AllZip}}

-- if `P` holds of each element, and each changes by `R`, which keeps `P`, it holds of each afterwards
pub all_kept : {S : Type 0} (R : S → S → Type 0) (P : S → Type 0) → ((a b : S) → R a b → P a → P b)
    → (before now : List S) → AllZip R before now → All P before
    → All P now
all_kept R P keep before now zip all k d below =
    let long = length_all_zip R before now zip in
    keep (get_or before k d) (get_or now k d) (AllZip-get_or R before now k d d zip (omega (arith, below, long)))
    (All-get_or P before k d (omega (arith, below, long)) all)
