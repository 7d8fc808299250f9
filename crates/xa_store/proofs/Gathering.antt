-- A round in which each of some sessions meets a last one.
use Rattle.std.proofs.Common.{◌≡◌, ℕ, zero, suc, ◌+◌, ◌<◌, ◌≤◌, List, [], ◌∷◌, ◌++◌, length, map, get_or, set, refl, ap}
use Rattle.std.proofs.{Common.{sym, ◌∙◌, subst, arith}, lemmas.List.Elements.{AllWithin-more_set, AllWithin-none}}
use Rattle.std.proofs.lemmas.List.Elements.{All-get_or, AllZip-get_or, length_all_zip}
use Rattle.std.specs.List.{All, AllZip, AllWithin}
use Rattle.decision_log.specs.{declared.known.Known.Known, History.{Begins, entries_of}}
use Rattle.decision_log.specs.Calls.{Looked, MeetsFirst, MeetsSecond}
use Rattle.decision_log.proofs.Histories.{begins_itself, begins_through, length_begins}
use Rattle.xa_store.specs.Gathered.{AddsNothing, last_known}

-- a pass that knows what it knew counts as the first of two that met
pub meets_nobody : (known : Known) → MeetsFirst known known
meets_nobody known = record { number = refl; seen = refl; mine = refl; looks = omega arith; tries = refl }

-- two meetings, one after the other, are one
pub meets_again : (old now new : Known) → MeetsFirst old now → MeetsFirst now new → MeetsFirst old new
meets_again old now new m n =
    record {
      number = n.number ∙ m.number;
      seen = n.seen ∙ m.seen;
      mine = n.mine
          ∙ m.mine;
      looks = omega (arith, m.looks, n.looks);
      tries = n.tries ∙ m.tries;
    }

-- a session that does nothing adds nothing
pub keeps_itself : (known : Known) → AddsNothing known known
keeps_itself known =
    record { number = refl; seen = begins_itself known.seen; mine = refl; looks = omega arith; tries = refl }

-- a session that adds nothing in each of two calls adds nothing in both
pub keeps_again : (old now new : Known) → AddsNothing old now → AddsNothing now new → AddsNothing old new
keeps_again old now new k l =
    record {
      number = l.number ∙ k.number;
      seen = begins_through old.seen now.seen new.seen k.seen l.seen;
      mine = l.mine ∙ k.mine;
      looks = omega (arith, k.looks, l.looks);
      tries = l.tries ∙ k.tries;
    }

-- a pass that has looked keeps all that it had
pub looks_keeps : (old new : Known) → Looked old new → AddsNothing old new
looks_keeps old new l =
    record { number = l.number; seen = l.seen; mine = l.mine; looks = omega (arith, l.looks); tries = l.tries }

-- of two sessions that meet, the second one adds nothing by it
met_keeps : (first old new : Known) → MeetsSecond first old new → AddsNothing old new
met_keeps first old new m = record { number = m.number; seen = m.seen; mine = m.mine; looks = m.looks; tries = m.tries }

-- a list is related to itself place by place, if each element is to itself
pub zip_itself : {S : Type 0} (R : S → S → Type 0) → ((s : S) → R s s) → (list : List S) → AllZip R list list
zip_itself R itself [] = tt
zip_itself R itself (s ∷ list) = (itself s, zip_itself R itself list)

-- if two lists are related place by place, the relation goes through, and one element of the second changes as it says,
-- the first list is related to the changed one
zip_set : {S : Type 0} (R : S → S → Type 0) → ((a b c : S) → R a b → R b c → R a c)
    → (before now : List S) (index : ℕ) (new d : S) → index < length now
    → AllZip R before now → R (get_or now index d) new → AllZip R before (set now index new)
zip_set R through [] [] index new d below zip step = absurd (omega arith)
zip_set R through [] (t ∷ now) index new d below zip step = absurd zip
zip_set R through (s ∷ before) [] index new d below zip step = absurd zip
zip_set R through (s ∷ before) (t ∷ now) zero new d below zip step = (through s t new zip.0 step, zip.1)
zip_set R through (s ∷ before) (t ∷ now) (suc index) new d below zip step =
    (zip.0, zip_set R through before now index new d (omega (arith, below)) zip.1 step)

-- lists related place by place to middle ones, and these to later ones, are related if the relation goes through
pub zip_through : {S : Type 0} (R : S → S → Type 0) → ((a b c : S) → R a b → R b c → R a c)
    → (before now after : List S) → AllZip R before now
    → AllZip R now after → AllZip R before after
zip_through R through [] [] [] zip zip' = tt
zip_through R through [] [] (c ∷ after) zip zip' = absurd zip'
zip_through R through [] (b ∷ now) after zip zip' = absurd zip
zip_through R through (a ∷ before) [] after zip zip' = absurd zip
zip_through R through (a ∷ before) (b ∷ now) [] zip zip' = absurd zip'
zip_through R through (a ∷ before) (b ∷ now) (c ∷ after) zip zip' =
    (through a b c zip.0 zip'.0, zip_through R through before now after zip.1 zip'.1)

-- what is true of each element is true of each changed one, if the change keeps it
pub all_kept : {S : Type 0} (R : S → S → Type 0) (P Q : S → Type 0) → ((a b : S) → R a b → P a → Q b)
    → (before now : List S) → AllZip R before now
    → All P before → All Q now
all_kept R P Q keep before now zip all k d below =
    let long = length_all_zip R before now zip in
    keep (get_or before k d) (get_or now k d) (AllZip-get_or R before now k d d zip (omega (arith, below, long)))
    (All-get_or P before k d (omega (arith, below, long)) all)

-- what follows of each pair follows of lists related place by place
pub zip_weaker : {S : Type 0} (R Q : S → S → Type 0) → ((a b : S) → R a b → Q a b) → (before now : List S)
    → AllZip R before now → AllZip Q before now
zip_weaker R Q weaker [] [] zip = tt
zip_weaker R Q weaker [] (b ∷ now) zip = absurd zip
zip_weaker R Q weaker (a ∷ before) [] zip = absurd zip
zip_weaker R Q weaker (a ∷ before) (b ∷ now) zip = (weaker a b zip.0, zip_weaker R Q weaker before now zip.1)

-- a pass that another met keeps all that it had
pub meets_keeps : (old new : Known) → MeetsFirst old new → AddsNothing old new
meets_keeps old new m =
    record {
      number = m.number;
      seen = subst (λ list. Begins old.seen list) (sym m.seen) (begins_itself old.seen);
      mine = m.mine;
      looks = m.looks;
      tries = m.tries;
    }

-- the last of what some sessions know is what the last session knows
pub last_known_of : {S : Type 0} (known : S → Known) (others : List S) (last : S)
    → last_known (map known (others ++ last ∷ [])) ≡ known last
last_known_of known [] last = refl
last_known_of known (one ∷ []) last = refl
last_known_of known (one ∷ other ∷ others) last = last_known_of known (other ∷ others) last

module _ {S : Type 0} (known : S → Known) (R : S → S → Type 0) where
  -- the first `index` sessions have met the last one: each session has changed as R says; the last has added nothing,
  -- and has seen what those have; and if it had seen what all have before, it sees no more, and its entries of the
  -- number of each of those are that session's own
  pub record Round (before now : List S) (old new : Known) (index : ℕ) : Type 0 where
    pub kept : AllZip R before now
    pub last : AddsNothing old new
    pub seen : AllWithin (λ s. Begins (known s).seen new.seen) now 0 index
    pub whole : All (λ s. Begins (known s).seen old.seen) before
        → (new.seen ≡ old.seen) × AllWithin (λ s. entries_of (known s).number new.seen ≡ (known s).mine) now 0 index

  module _ (itself : (s : S) → R s s) (through : (a b c : S) → R a b → R b c → R a c)
      (meets : (a b : S) → R a b → MeetsFirst (known a) (known b)) where
    -- before the first meeting, none has met the last
    pub no_round : (before : List S) (last : Known) → Round before before last last 0
    no_round before last = record {
      kept = zip_itself R itself before;
      last = keeps_itself last;
      seen = AllWithin-none (λ s. Begins (known s).seen last.seen) before 0;
      whole = λ all. (refl, AllWithin-none (λ s. entries_of (known s).number last.seen ≡ (known s).mine) before 0);
    }

    -- if the first `index` have met the last, and then the one at this index does, the first index + 1 have
    pub next_round : (before now : List S) (first last last' : Known) (index : ℕ) (d new : S) → index < length now
        → Round before now first last index
        → R (get_or now index d) new
        → MeetsSecond (known (get_or now index d)) last last' → Round before (set now index new) first last' (index + 1)
    next_round before now first last last' index d new below r step m =
        let met = meets (get_or now index d) new step in
        record {
          kept = zip_set R through before now index new d below r.kept step;
          last = keeps_again first last last' r.last (met_keeps (known (get_or now index d)) last last' m);
          seen =
              AllWithin-more_set now index new below (λ s. Begins (known s).seen last'.seen)
              (λ k d low high. begins_through (known (get_or now k d)).seen last.seen last'.seen
              (r.seen k d low high) m.seen)
              (subst (λ list. Begins list last'.seen) (sym met.seen) m.whole);
          whole =
              λ all.
              let w = r.whole all in
              let from : R (get_or before index d) (get_or now index d) =
              AllZip-get_or R before now index d d r.kept (omega (arith, below, length_all_zip R before now r.kept)) in
              let begun : Begins (known (get_or before index d)).seen first.seen =
              All-get_or (λ s. Begins (known s).seen first.seen) before index d
              (omega (arith, below, length_all_zip R before now r.kept)) all in
              let short : length (known (get_or now index d)).seen ≤ length last.seen =
              omega (
                arith,
                length_begins (known (get_or before index d)).seen first.seen begun,
                ap length (meets (get_or before index d) (get_or now index d) from).seen,
                ap length w.0,
              ) in
              let stays = m.stays short in (
                stays ∙ w.0,
                AllWithin-more_set now index new below (λ s. entries_of (known s).number last'.seen ≡ (known s).mine)
                    (λ k d low high. ap (entries_of (known (get_or now k d)).number) stays ∙ w.1 k d low high)
                    (ap (λ n. entries_of n last'.seen) met.number ∙ m.of_other ∙ sym met.mine),
              );
        }
