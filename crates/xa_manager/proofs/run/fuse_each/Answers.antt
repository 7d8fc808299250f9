use Rattle.std.proofs.Common.{◌≡◌, ◌<◌, ◌-◌, ◌^◌, ◌∙◌, ◌++◌, ◌∷◌, [], ℕ, List, length, length-append, map, ap, sym}
use Rattle.std.proofs.{Common.{subst, arith}, lemmas.List.map_push}
use Rattle.xa_coordinator.specs.declared.fused.Fused.{Fused}
use Rattle.xa_manager.{specs.Limits.Passes, proofs.Limits.passes_more}
use Rattle.xa_manager.proofs.run.fuse_each.Goals as goal

pub loop-session-preserved : goal.loop-session-preserved
loop-session-preserved g c =
    let so_far = c.loop-session.invariant in
    let items : c.push.new.self.items ≡ c.loop-session.fused.items ++ c.new.result ∷ [] = c.in_ok-push.ensures.items in
    let inner : Fused g.row.S.Denot → g.row.S.Denot = λ session. session.inner in
    let P : List (Fused g.row.S.Denot) → Type 0 = λ list. (store : ℕ) → store < length list
    → Passes store (2 ^ 64 - 1) list in
    record {
      count = omega (
        arith,
        so_far.count,
        c.in_ok-push.ensures.len,
        length-append c.loop-session.yielded
            (c.in-Some.session ∷ []),
      );
      within = ap (map inner) items ∙ map_push inner c.loop-session.fused.items c.new.result
          ∙ ap (λ list. list ++ c.new.result.inner ∷ []) so_far.within
          ∙ ap (λ session. c.loop-session.yielded ++ session ∷ []) c.new.ensures.inner;
      passes = subst P (sym items)
          (passes_more (2 ^ 64 - 1) c.loop-session.fused.items c.new.result so_far.passes c.new.ensures.left);
    }
