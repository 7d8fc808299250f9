-- Going from store to store.
use Rattle.std.proofs.Common.{◌≡◌, ◌≢◌, ◌<◌, ◌≤◌, ◌+◌, ℕ, List, length, get_or, refl, sym, ◌∙◌, subst, inl, inr, Some}
use Rattle.std.proofs.{Common.arith, lemmas.Bool.{cases_order, cases_lt, Decides.eqb_tells}}
use Rattle.std.{proofs.lemmas.Option.{slice_get_within, slice_get-get_or}, specs.Prelude.slice_get}
use Rattle.xa_session.specs.View.{SessionView}
use Rattle.xa_coordinator.specs.Stores.{AtStore, EachStore, ChangesAt, EndsAt}

-- the fact holds of each store below this number, and the sessions of the others are as they were
pub record Reached {S : Type 0} (view : S → SessionView) (fact : ℕ → SessionView → SessionView → Type 0) (place : ℕ)
    (old now : List S) : Type 0 where
  pub count : length now ≡ length old
  pub below : (store : ℕ) → store < place → AtStore view store (fact store) old now
  pub behind : (store : ℕ) → place ≤ store → slice_get now store ≡ slice_get old store

-- two calls that change only one store change only that store together
pub changes_then : {S : Type 0} (store : ℕ) (old mid new : List S) → ChangesAt store old mid → ChangesAt store mid new
    → ChangesAt store old new
changes_then store old mid new one two =
    record { count = two.count ∙ one.count; others = λ other apart. two.others other apart ∙ one.others other apart }

-- a list of stores that is as it was counts as one in which only this store was changed
pub unchanged : {S : Type 0} (store : ℕ) (old : List S) → ChangesAt store old old
unchanged store old = record { count = refl; others = λ other apart. refl }

-- if two values are found at a place, they are the same
pub same_one : {S : Type 0} (found : _) (a b : S) → found ≡ Some a → found ≡ Some b → a ≡ b
same_one found a b is_a is_b = cc

module _ {S : Type 0} (view : S → SessionView) where
  -- if a fact holds of a store over one call, and another fact over the next, the fact to which both join holds over
  -- both
  pub at_then : (store : ℕ) (f g h : SessionView → SessionView → Type 0)
      → ((a b c : SessionView) → f a b → g b c → h a c) → (old mid new : List S)
      → length mid ≡ length old →
      AtStore view store f old mid → AtStore view store g mid new → AtStore view store h old new
  at_then store f g h join old mid new count one two = λ before after is_before is_after.
      let below : store < length old = slice_get_within old store before is_before in
      let between : S = get_or mid store before in
      let is_between : slice_get mid store ≡ Some between =
      slice_get-get_or mid store before (omega (arith, count, below)) in
      join (view before) (view between) (view after) (one before between is_before is_between)
      (two between after is_between is_after)

  -- a fact that holds of a store can be weakened
  pub at_weaker : (store : ℕ) (f g : SessionView → SessionView → Type 0) → ((a b : SessionView) → f a b → g a b)
      → (old new : List S)
      → AtStore view store f old new → AtStore view store g old new
  at_weaker store f g weaken old new is =
      λ before after is_before is_after. weaken (view before) (view after) (is before after is_before is_after)

  -- at a store whose session is as it was, a fact holds that holds of each session that didn't change
  pub at_same : (store : ℕ) (f : SessionView → SessionView → Type 0) → ((a : SessionView) → f a a) → (old new : List S)
      → slice_get new store ≡ slice_get old store → AtStore view store f old new
  at_same store f same old new is = λ before after is_before is_after.
      subst (λ s. f (view before) (view s)) (same_one (slice_get new store) before after (is ∙ is_before) is_after)
      (same (view before))

  module _ (fact : ℕ → SessionView → SessionView → Type 0) where
    -- before the first store the fact holds of those below it, of which there are none
    pub reached_none : (old : List S) → Reached view fact 0 old old
    reached_none old = record { count = refl; below = λ store none. absurd (omega arith); behind = λ store from. refl }

    -- the walk passes a store to which it doesn't speak, if the fact holds of a session that didn't change
    pub reached_skip : (place : ℕ) (old now : List S) → Reached view fact place old now
        → ((a : SessionView) → fact place a a)
        → Reached view fact (place + 1) old now
    reached_skip place old now so_far same = record {
      count = so_far.count;
      below = λ store less.
          elim (cases_lt store place) [
            | inl below ↦ so_far.below store below
            | inr there ↦
                let here : place ≡ store = omega arith in
                subst (λ s. AtStore view s (fact s) old now) here
                (at_same place (fact place) same old now (so_far.behind place (omega arith)))
          ];
      behind = λ store from. so_far.behind store (omega arith);
    }

    -- the walk passes a store that alone was changed, if the fact holds of it over that change
    pub reached_next : (place : ℕ) (old now next : List S) → Reached view fact place old now → ChangesAt place now next
        → AtStore view place (fact place) now next → Reached view fact (place + 1) old next
    reached_next place old now next so_far changes is = record {
      count = changes.count ∙ so_far.count;
      below = λ store less.
          elim (cases_lt store place) [
            | inl below ↦ λ before after is_before is_after. so_far.below store below before after is_before
                (sym (changes.others store (omega arith)) ∙ is_after)
            | inr there ↦
                let here : place ≡ store = omega arith in
                subst (λ s. AtStore view s (fact s) old next) here
                (λ before after is_before is_after. is before after
                (so_far.behind place (omega arith) ∙ is_before) is_after)
          ];
      behind = λ store from. changes.others store (omega arith) ∙ so_far.behind store (omega arith);
    }

    -- once the walk has passed all stores, the fact holds of each
    pub reached_all : (place : ℕ) (old now : List S) → Reached view fact place old now → length old ≤ place
        → EachStore view fact old now
    reached_all place old now so_far whole store = λ before after is_before is_after.
        so_far.below store (omega (arith, slice_get_within old store before is_before)) before after is_before is_after

    -- if the walk has reached a store that alone is changed then, the call ended at this store, with what holds of it
    pub ended_at : (place : ℕ) (last : SessionView → SessionView → Type 0) (old now next : List S)
        → Reached view fact place old now → ChangesAt place now next
        → AtStore view place last now next → EndsAt view fact place last old next
    ended_at place last old now next so_far changes is = record {
      below =
          λ other less. λ before after is_before is_after. so_far.below other less before after is_before
          (sym (changes.others other (omega arith)) ∙ is_after);
      at = λ before after is_before is_after. is before after (so_far.behind place (omega arith) ∙ is_before) is_after;
      behind = λ other more. changes.others other (omega arith) ∙ so_far.behind other (omega arith);
    }

    -- if a call ended at a store, a goal holds of each store, provided that it follows from the fact at the stores
    -- below, follows from `last` at this one, and holds of each session that didn't change
    pub from_ends : (goal : ℕ → SessionView → SessionView → Type 0) (store : ℕ)
        (last : SessionView → SessionView → Type 0) (old new : List S)
        → EndsAt view fact store last old new →
        ((other : ℕ) (a b : SessionView) → fact other a b → goal other a b)
        → ((a b : SessionView) → last a b → goal store a b)
        → ((other : ℕ) (a : SessionView) → goal other a a) → EachStore view goal old new
    from_ends goal store last old new is weaken at_last same other =
        elim (cases_order other store) [
          | inl here ↦ subst (λ s. AtStore view s (goal s) old new) (sym here)
              (at_weaker store last (goal store) at_last old new is.at)
          | inr apart ↦ elim apart [
            | inl less ↦ at_weaker other (fact other) (goal other) (weaken other) old new (is.below other less)
            | inr more ↦ at_same other (goal other) (same other) old new (is.behind other more)
          ]
        ]

  -- a fact that holds of the stores that the walk has passed can be weakened
  pub reached_weaker : (f g : ℕ → SessionView → SessionView → Type 0) (place : ℕ) (old now : List S)
      → ((store : ℕ) → store < place → (a b : SessionView) → f store a b → g store a b) → Reached view f place old now
      → Reached view g place old now
  reached_weaker f g place old now weaken so_far = record {
    count = so_far.count;
    below = λ store less. at_weaker store (f store) (g store) (weaken store less) old now (so_far.below store less);
    behind = so_far.behind;
  }

  -- if only one store was changed, a fact holds of each store, provided that it holds of that one over the change,
  -- and at the others of each session that didn't change
  pub only_at : (fact : ℕ → SessionView → SessionView → Type 0) (store : ℕ) (old new : List S) → ChangesAt store old new
      → AtStore view store (fact store) old new → ((other : ℕ) → other ≢ store → (a : SessionView) → fact other a a)
      → EachStore view fact old new
  only_at fact store old new changes is same other =
      elim (eqb_tells other store) [
        | inl (_, here) ↦ subst (λ s. AtStore view s (fact s) old new) (sym here) is
        | inr (_, apart) ↦ at_same other (fact other) (same other apart) old new (changes.others other apart)
      ]
