use Rattle.std.proofs.Common.{◌≡◌, ◌∙◌, ◌<◌, ◌-◌, ◌^◌, ℕ, List, All, length, refl, sym, subst, arith}
use Rattle.std.proofs.lemmas.List.Elements.{All-push}
use Rattle.decision_log.specs.Known.{newcomer}
use Rattle.xa_server.specs.State.{no_state}
use Rattle.xa_coordinator.specs.declared.{fused.Fused.Fused, store.LastingStore.LastingStore}
use Rattle.xa_coordinator.specs.Lasting.{own_view, other_view, other_alone}
use Rattle.xa_manager.{specs.{Limits.Passes, Whole.IsPair}, proofs.Limits.passes_more}
use Rattle.xa_manager.proofs.lasting.open_each.Goals as goal

pair_of : (store : LastingStore) → store.first.value ≡ no_state → (own_view store).known ≡ newcomer 1
    → (other_view store).known ≡ newcomer 2
    → IsPair (own_view store) (other_alone store)
pair_of store base own other =
    record { log = refl; first_base = base; second_base = base; first_known = own; second_known = other }

pub loop-alloc-preserved : goal.loop-alloc-preserved
loop-alloc-preserved c =
    let so_far = c.loop-alloc.invariant in
    let sessions = c.loop-alloc.sessions.items in
    let session = c.new-in-loop-alloc.result in
    let made = c.new-store.ensures in
    let R : Fused LastingStore → Type 0 = λ (s : Fused LastingStore). IsPair (own_view s.inner) (other_alone s.inner) in
    let P : List (Fused LastingStore) → Type 0 = λ list. All R list in
    let Q : List (Fused LastingStore) → Type 0 = λ list. (store : ℕ) → store < length list
    → Passes store (2 ^ 64 - 1) list in
    let pair : R session =
    subst (λ (s : LastingStore). IsPair (own_view s) (other_alone s)) (sym c.new-in-loop-alloc.ensures.inner)
    (pair_of c.new-store.result (made.base ∙ c.new.ensures) made.own made.other) in
    record {
      within = omega (arith, c.in_ok-push.ensures.len, c.loop-alloc-test.true, c.len.ensures);
      nobody = omega (arith, c.in_ok-push.ensures.len, c.in_ok-push-2.ensures.len, so_far.nobody);
      pairs = subst P (sym c.in_ok-push.ensures.items) (All-push R sessions session so_far.pairs pair);
      passes = subst Q (sym c.in_ok-push.ensures.items) (passes_more
          (2 ^ 64 - 1) sessions session so_far.passes c.new-in-loop-alloc.ensures.left);
    }
