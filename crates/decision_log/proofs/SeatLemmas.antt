-- What is true of all seats stays true when one steps, is split, or takes in another, whatever the words are.
-- Here `h` is a pass's view: what a seat of the log knows of that pass.
use Rattle.std.proofs.Common.{◌≡◌, ◌≢◌, ◌⊎◌, ℕ, zero, suc, ◌+◌, ◌<◌, cond, nat_eq, List, [], ◌∷◌, ◌++◌, length, set}
use Rattle.std.proofs.Common.{refl, ap, sym, ◌∙◌, subst, inl, inr, ⊎_elim, arith, eq-eqb, ne_eqb}
use Rattle.std.proofs.lemmas.List.{length-set}
use mathlib.Core.Option.{some, some-injective, some-ne-none}
use Rattle.atomic_table.proofs.Lists.{at_set, set_else}
use Rattle.decision_log.specs.declared.view.{PassView.PassView, SeatView.SeatView}
use Rattle.decision_log.specs.declared.view.SeatView.TheVariants.{Empty, Single, Pair, Unissued}
use Rattle.decision_log.specs.Seats.{Placed, Fits, Seats, following}
use lib.ListN.{get_elem?}

-- the seats of all numbers, once this number has moved to the seat id
unfoldable pub moved : (ℕ → ℕ) → ℕ → ℕ → ℕ → ℕ
moved home number id n = cond (nat_eq n number) id (home n)

-- a pass that moved to a seat is at it
pub moved_here : (home : ℕ → ℕ) (number id : ℕ) → moved home number id number ≡ id
unfolding moved
moved_here home number id = rw (eq-eqb number number refl) refl

-- a pass that moves to a seat leaves the others where they are
pub moved_else : (home : ℕ → ℕ) (number id n : ℕ) → n ≢ number → moved home number id n ≡ home n
unfolding moved
moved_else home number id n apart = rw (ne_eqb n number apart) refl

-- an element of a list that got one longer was in it before, or is the new one, at its end
pub at_end : {A : Type 0} (xs : List A) (a b : A) (j : ℕ) → get_elem? (xs ++ a ∷ []) j ≡ some b
    → (get_elem? xs j ≡ some b) ⊎ ((j ≡ length xs) × (a ≡ b))
at_end [] a b zero e = inr (refl, some-injective a b e)
at_end [] a b (suc j) e = absurd (some-ne-none b (sym e))
at_end (x ∷ xs) a b zero e = inl e
at_end (x ∷ xs) a b (suc j) e = ⊎_elim (λ h. inl h) (λ h. inr (ap suc h.0, h.1)) (at_end xs a b j e)

module _ (F G : PassView → Type 0) (home : ℕ → ℕ) (next : ℕ) where
  -- at the seat of a pass may stand another one of the same number, of which the fact G holds
  pub placed : {id : ℕ} {h : PassView} (k : PassView) → Placed F home next id h → k.known.number ≡ h.known.number → G k
      → Placed G home next id k
  placed k p same fact =
      record {
        low = omega (arith, p.low);
        high = omega (arith, p.high);
        home_is = ap home same
            ∙ p.home_is;
        fact_is = fact;
      }

  -- at any other seat than that of h, what is known is true with G in place of F, if F gives G for passes of other
  -- numbers
  others : (h : PassView) (id j : ℕ) → home h.known.number ≡ id → h.known.number < next → j ≢ id
      → ((g : PassView) → g.known.number ≢ h.known.number → 0 < g.known.number → F g → G g) → (v : SeatView)
      → Fits F home next j v → Fits G home next j v
  others h id j at high apart keep Empty p = tt
  others h id j at high apart keep (Single g) p =
      placed g p refl (keep g (λ e. apart (sym p.home_is ∙ ap home e ∙ at)) p.low p.fact_is)
  others h id j at high apart keep (Pair g k) p = (
    placed g p.0 refl (keep g (λ e. apart (sym p.0.home_is ∙ ap home e ∙ at)) p.0.low p.0.fact_is),
    placed k p.1 refl (keep k (λ e. apart (sym p.1.home_is ∙ ap home e ∙ at)) p.1.low p.1.fact_is),
    p.2,
  )
  others h id j at high apart keep (Unissued g) p =
      let rest = p.1 in
      (p.0, p.1, keep g (λ e. omega arith) (omega arith) p.2)

  -- after a pass h steps to k, of the same number, what all seats know is true with G in place of F, if G holds of k,
  -- and of each pass of another number of which F holds
  pub step_seat : (views : List SeatView) (id : ℕ) (h k : PassView) → Seats F home next views
      → get_elem? views id ≡ some (Single h)
      → k.known.number ≡ h.known.number
      → G k
      → ((g : PassView) → g.known.number ≢ h.known.number → 0 < g.known.number → F g → G g)
      → Seats G home next (set views id (Single k))
  step_seat views id h k seats here same fact keep j v e =
      let p = seats id (Single h) here in
      ⊎_elim
      (λ t. subst (λ w. Fits G home next j w) t.1 (subst (λ n. Placed G home next n k) (sym t.0)
      (placed k p same fact)))
      (λ t. others h id j p.home_is p.high t.0 keep v (seats j v t.1))
      (at_set views id j (Single k) v e)

module _ (F : PassView → Type 0) (home : ℕ → ℕ) (next : ℕ) where
  -- what all seats know stays true if two passes at one seat become two others, of the same numbers, of which the
  -- fact holds
  pub step_two : (views : List SeatView) (id : ℕ) (g h g' h' : PassView) → Seats F home next views
      → get_elem? views id ≡ some (Pair g h)
      → g'.known.number ≡ g.known.number → h'.known.number ≡ h.known.number
      → F g' → F h' → Seats F home next (set views id (Pair g' h'))
  step_two views id g h g' h' seats here same same' fact fact' j v e =
      let p = seats id (Pair g h) here in
      ⊎_elim
      (λ t. subst (λ w. Fits F home next j w) t.1
      (subst (λ n. Fits F home next n (Pair g' h')) (sym t.0) (
        placed F F home next g' p.0 same fact,
        placed F F home next h' p.1 same' fact',
        (λ same_number. p.2 (sym same ∙ same_number ∙ same')),
      )))
      (λ t. seats j v t.1)
      (at_set views id j (Pair g' h') v e)

  module _ (number target : ℕ) where
    -- a pass of another number stays at its seat if this number moves to the seat `target`
    placed_elsewhere : {j : ℕ} {g : PassView} → Placed F home next j g → g.known.number ≢ number
        → Placed F (moved home number target) next j g
    placed_elsewhere {j} {g} p apart =
        record {
          low = p.low;
          high = p.high;
          home_is = moved_else home number target g.known.number apart
              ∙ p.home_is;
          fact_is = p.fact_is;
        }

    -- what a seat knows stays true if a number moves to another seat, and this seat isn't the one that it leaves
    rehomed : (j : ℕ) → 0 < number → home number ≢ j → (v : SeatView) → Fits F home next j v
        → Fits F (moved home number target) next j v
    rehomed j low apart Empty p = tt
    rehomed j low apart (Single g) p = placed_elsewhere p (λ e. apart (ap home (sym e) ∙ p.home_is))
    rehomed j low apart (Pair g k) p = (
      placed_elsewhere p.0 (λ e. apart (ap home (sym e) ∙ p.0.home_is)),
      placed_elsewhere p.1
          (λ e. apart (ap home (sym e) ∙ p.1.home_is)),
      p.2,
    )
    rehomed j low apart (Unissued g) p = (moved_else home number target 0 (λ e. omega arith) ∙ p.0, p.1, p.2)

  -- what all seats know stays true if a seat takes in the pass of another, which is then empty, and the pass's number
  -- moves
  pub join_seats : (views : List SeatView) (id other : ℕ) (g h : PassView) → Seats F home next views
      → get_elem? views id ≡ some (Single g) → other ≢ id
      → get_elem? (set views id (Pair g h)) other ≡ some (Single h)
      → Seats F (moved home h.known.number id) next (set (set views id (Pair g h)) other Empty)
  join_seats views id other g h seats here apart there j v e =
      let p = seats id (Single g) here in
      let q = seats other (Single h) (sym (set_else views id other (Pair g h) apart) ∙ there) in
      let two : g.known.number ≢ h.known.number = λ e. apart (sym q.home_is ∙ ap home (sym e) ∙ p.home_is) in
      ⊎_elim
      (λ t. subst (λ w. Fits F (moved home h.known.number id) next j w) t.1 tt)
      (λ t.
      let out = t.0 in
      ⊎_elim
      (λ u. subst (λ w. Fits F (moved home h.known.number id) next j w) u.1
      (subst (λ n. Fits F (moved home h.known.number id) next n (Pair g h)) (sym u.0) (
        placed_elsewhere h.known.number id p two,
        record
            { low = q.low; high = q.high; home_is = moved_here home h.known.number id; fact_is = q.fact_is },
        two,
      )))
      (λ u. rehomed h.known.number id j q.low (λ e. out (sym e ∙ q.home_is)) v (seats j v u.1))
      (at_set views id j (Pair g h) v t.1))
      (at_set (set views id (Pair g h)) other j Empty v e)

  -- what all seats know stays true if a seat with two passes is split: the second pass, with its number, gets a seat
  -- at the end
  pub split_two : (views : List SeatView) (id : ℕ) (g h : PassView) → Seats F home next views
      → get_elem? views id ≡ some (Pair g h)
      → Seats F (moved home h.known.number (length views)) next (set views id (Single g) ++ Single h ∷ [])
  split_two views id g h seats here j v e =
      let p = seats id (Pair g h) here in
      let end : length (set views id (Single g)) ≡ length views = length-set views id (Single g) in
      ⊎_elim
      (λ t.
      ⊎_elim
      (λ u. subst (λ w. Fits F (moved home h.known.number (length views)) next j w) u.1
      (subst (λ n. Placed F (moved home h.known.number (length views)) next n g) (sym u.0)
      (placed_elsewhere h.known.number (length views) p.0 p.2)))
      (λ u. let out = u.0 in rehomed h.known.number (length views) j p.1.low (λ e. out (sym e ∙ p.1.home_is)) v
      (seats j v u.1))
      (at_set views id j (Single g) v t))
      (λ t. subst (λ w. Fits F (moved home h.known.number (length views)) next j w) t.1
      (record {
        low = p.1.low;
        high = p.1.high;
        home_is = moved_here home h.known.number (length views)
            ∙ sym (t.0 ∙ end);
        fact_is = p.1.fact_is;
      }))
      (at_end (set views id (Single g)) (Single h) v j e)

  -- what all seats know stays true if a seat with one pass splits off an empty seat, which is put at the end
  pub split_one : (views : List SeatView) (id : ℕ) (g : PassView) → Seats F home next views
      → get_elem? views id ≡ some (Single g)
      → Seats F home next (set views id (Single g) ++ Empty ∷ [])
  split_one views id g seats here j v e =
      ⊎_elim
      (λ t. ⊎_elim (λ u. subst (λ w. Fits F home next j w) u.1
      (subst (λ n. Placed F home next n g) (sym u.0) (seats id (Single g) here))) (λ u. seats j v u.1)
      (at_set views id j (Single g) v t))
      (λ t. subst (λ w. Fits F home next j w) t.1 tt)
      (at_end (set views id (Single g)) Empty v j e)

  -- what all seats know stays true if the next pass is given out, with a seat at the end, `next` rises by one, and
  -- the fact holds of the pass after it
  pub deal_seat : (views : List SeatView) (id : ℕ) (h : PassView) → 0 < next → Seats F home next views
      → get_elem? views id ≡ some (Unissued h)
      → F (following h)
      → Seats F (moved home h.known.number (length views)) (next + 1)
      (set views id (Unissued (following h)) ++ Single h ∷ [])
  deal_seat views id h begun seats here fact j v e =
      let p = seats id (Unissued h) here in
      let end : length (set views id (Unissued (following h))) ≡ length views =
      length-set views id (Unissued (following h)) in
      let number = p.1 in
      ⊎_elim
      (λ t.
      ⊎_elim
      (λ u. subst (λ w. Fits F (moved home h.known.number (length views)) (next + 1) j w) u.1 (
        moved_else home h.known.number (length views) 0 (λ e. omega arith) ∙ p.0
            ∙ sym u.0,
        ap (λ n. n + 1) number,
        fact,
      ))
      (λ u. kept h j (length views) begun number (λ e. u.0 (sym e ∙ p.0)) v (seats j v u.1))
      (at_set views id j (Unissued (following h)) v t))
      (λ t. subst (λ w. Fits F (moved home h.known.number (length views)) (next + 1) j w) t.1
      (record {
        low = omega arith;
        high = omega arith;
        home_is = moved_here home h.known.number (length views)
            ∙ sym (t.0 ∙ end);
        fact_is = p.2;
      }))
      (at_end (set views id (Unissued (following h))) (Single h) v j e)
    where
      longer : (h : PassView) (target : ℕ) → h.known.number ≡ next → {j : ℕ} {g : PassView} → Placed F home next j g
          → Placed F (moved home h.known.number target) (next + 1) j g
      longer h target number {j} {g} p =
          let high = p.high in
          record {
            low = p.low;
            high = omega arith;
            home_is = moved_else home h.known.number target g.known.number (λ e. omega arith) ∙ p.home_is;
            fact_is = p.fact_is;
          }

      kept : (h : PassView) (j target : ℕ) → 0 < next → h.known.number ≡ next → home 0 ≢ j → (v : SeatView)
          → Fits F home next j v
          → Fits F (moved home h.known.number target) (next + 1) j v
      kept h j target begun number apart Empty p = tt
      kept h j target begun number apart (Single g) p = longer h target number p
      kept h j target begun number apart (Pair g k) p = (longer h target number p.0, longer h target number p.1, p.2)
      kept h j target begun number apart (Unissued g) p = absurd (apart p.0)
