use Rattle.std.proofs.{Common.{◌≡◌, ℕ, List, All, sym, subst, arith}, lemmas.List.Elements.All-push}
use Rattle.std.proofs.lemmas.Slice.Zip.{all_zipped_more}
use Rattle.decision_log.specs.Known.{newcomer}
use Rattle.xa_server.specs.State.{no_state}
use Rattle.xa_store.specs.{Passes.{Pass, identity_of, known_of}, declared.store.Store.Store}
use Rattle.xa_manager.proofs.Passes.{IsOwn}
use Rattle.xa_manager.proofs.run.open_stores.Goals as goal

pub loop-alloc-preserved : goal.loop-alloc-preserved
loop-alloc-preserved c =
    let stores = c.loop-alloc.stores.items in
    let opened = c.in_ok-store.ensures in
    let grown = c.in_ok-push.ensures.len in
    let below = c.loop-alloc-test.true in
    let counted = c.len.ensures in
    let so_far = c.loop-alloc.invariant.new in
    let HasRoom : Store → Type 0 = λ store. (identity_of store.log).capacity ≡ c.args.capacity in
    let HoldsNothing : Store → Type 0 = λ store. store.base ≡ no_state in
    let IsNewcomer : ℕ → Pass → Type 0 = λ number pass. known_of pass ≡ newcomer number in
    let Roomy : List Store → Type 0 = λ list. All HasRoom list in
    let Empty : List Store → Type 0 = λ list. All HoldsNothing list in
    let First : List Pass → Type 0 = λ list. All (IsNewcomer 1) list in
    let Second : List Pass → Type 0 = λ list. All (IsNewcomer 2) list in
    record {
      within = omega (arith, grown, below, counted);
      first =
          rw (c.in_ok-push.ensures.items, c.in_ok-push-2.ensures.items)
          (all_zipped_more IsOwn stores c.loop-alloc.firsts.items c.in_ok-store.store c.in_ok-store.first
          c.loop-alloc.invariant.first opened.logs.0);
      second =
          rw (c.in_ok-push.ensures.items, c.in_ok-push-3.ensures.items)
          (all_zipped_more IsOwn stores c.loop-alloc.seconds.items c.in_ok-store.store c.in_ok-store.second
          c.loop-alloc.invariant.second opened.logs.1);
      capacity = subst Roomy (sym c.in_ok-push.ensures.items)
          (All-push HasRoom stores c.in_ok-store.store c.loop-alloc.invariant.capacity opened.capacity);
      new = record {
        empty = subst Empty (sym c.in_ok-push.ensures.items)
            (All-push HoldsNothing stores c.in_ok-store.store so_far.empty opened.empty);
        first = subst First (sym c.in_ok-push-2.ensures.items)
            (All-push (IsNewcomer 1) c.loop-alloc.firsts.items c.in_ok-store.first so_far.first opened.known.0);
        second = subst Second (sym c.in_ok-push-3.ensures.items)
            (All-push (IsNewcomer 2) c.loop-alloc.seconds.items c.in_ok-store.second so_far.second opened.known.1);
      };
    }
