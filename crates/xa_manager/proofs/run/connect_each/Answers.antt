use Rattle.std.proofs.Common.{◌≡◌, ◌<◌, ◌∙◌, ◌++◌, ◌∷◌, [], length, length-append, get_or, map, take, ap, sym, subst}
use Rattle.std.proofs.{Common.arith, lemmas.{List.{map_push, map-id}, Iterator.Adapters.YieldsList-from_vec}}
use Rattle.std.proofs.lemmas.{Iterator.Consumers.{YieldsList-turn, YieldsList-end}, Slice.Zip.AllZip-long}
use Rattle.std.specs.List.{AllZip}
use Rattle.xa_manager.proofs.Passes.{IsOwn, own_at, bases_more, bases_all}
use Rattle.xa_manager.proofs.run.connect_each.Goals as goal

pub offset_bounds-stores-len : goal.offset_bounds-stores-len
offset_bounds-stores-len c =
    let from = c.into_iter-pass-iterator.ensures.into_iter_gives in
    let pass = c.in-Some.pass in
    let yielded = c.loop-pass.yielded in
    let turn : (length yielded < length c.args.passes.items)
    × (pass ≡ get_or c.args.passes.items (length yielded) pass) =
    YieldsList-turn (YieldsList-from_vec {s = c.into_iter-pass-iterator.result} c.args.passes.items from.0
    (from.1 ∙ c.args.passes.ok.0)) yielded
    c.loop-pass.pass-iterator c.loop-pass.yielded_by c.next.result c.next.new.self pass c.in-Some.is
    c.next.ensures.steps in
    let below = turn.0 in
    let count = AllZip-long IsOwn c.args.stores.now c.args.passes.items c.requires in
    let within : c.len.result < length c.args.stores.now =
    omega (arith, below, count, c.len.ensures, c.loop-pass.invariant.count) in
    omega (arith, within)

pub bounds-stores-len : goal.bounds-stores-len
bounds-stores-len c =
    let from = c.into_iter-pass-iterator.ensures.into_iter_gives in
    let pass = c.in-Some.pass in
    let yielded = c.loop-pass.yielded in
    let turn : (length yielded < length c.args.passes.items)
    × (pass ≡ get_or c.args.passes.items (length yielded) pass) =
    YieldsList-turn (YieldsList-from_vec {s = c.into_iter-pass-iterator.result} c.args.passes.items from.0
    (from.1 ∙ c.args.passes.ok.0)) yielded
    c.loop-pass.pass-iterator c.loop-pass.yielded_by c.next.result c.next.new.self pass c.in-Some.is
    c.next.ensures.steps in
    let below = turn.0 in
    let count = AllZip-long IsOwn c.args.stores.now c.args.passes.items c.requires in
    omega (arith, below, count, c.len.ensures, c.loop-pass.invariant.count)

pub connect-requires : goal.connect-requires
connect-requires c =
    let from = c.into_iter-pass-iterator.ensures.into_iter_gives in
    let pass = c.in-Some.pass in
    let yielded = c.loop-pass.yielded in
    let turn : (length yielded < length c.args.passes.items)
    × (pass ≡ get_or c.args.passes.items (length yielded) pass) =
    YieldsList-turn (YieldsList-from_vec {s = c.into_iter-pass-iterator.result} c.args.passes.items from.0
    (from.1 ∙ c.args.passes.ok.0)) yielded
    c.loop-pass.pass-iterator c.loop-pass.yielded_by c.next.result c.next.new.self pass c.in-Some.is
    c.next.ensures.steps in
    let at : length yielded ≡ c.len.result = sym c.loop-pass.invariant.count ∙ sym c.len.ensures in
    own_at c.args.stores.now c.args.passes.items (length yielded) c.len.result c.index-stores-len.result pass at
    c.requires turn.0 c.index-stores-len.is turn.1

pub loop-pass-preserved : goal.loop-pass-preserved
loop-pass-preserved c =
    let so_far = c.loop-pass.invariant in
    let yielded = c.loop-pass.yielded in
    let pass = c.in-Some.pass in
    let session = c.in-Ok.session in
    let sessions = c.loop-pass.sessions.items in
    let stores = c.args.stores.now in
    let items : c.push.new.self.items ≡ sessions ++ session ∷ [] = c.in_ok-push.ensures.items in
    let from = c.into_iter-pass-iterator.ensures.into_iter_gives in
    let turn : (length yielded < length c.args.passes.items)
    × (pass ≡ get_or c.args.passes.items (length yielded) pass) =
    YieldsList-turn (YieldsList-from_vec {s = c.into_iter-pass-iterator.result} c.args.passes.items from.0
    (from.1 ∙ c.args.passes.ok.0)) yielded
    c.loop-pass.pass-iterator c.loop-pass.yielded_by c.next.result c.next.new.self pass c.in-Some.is
    c.next.ensures.steps in
    let below = turn.0 in
    let whole = AllZip-long IsOwn stores c.args.passes.items c.requires in
    let at : length yielded ≡ c.len.result = sym so_far.count ∙ sym c.len.ensures in
    let more = length-append yielded (pass ∷ []) in
    let based : session.base.now ≡ (get_or stores c.len.result c.index-stores-len.result).base =
    let e = c.in-Ok.ensures.base in
    let i = c.index-stores-len.is in
    (cc) in
    let bases =
    bases_more (λ s. s.base.now) stores sessions c.push.new.self.items session
    (length yielded) c.len.result c.index-stores-len.result at
    (omega (arith, below, whole, at)) items based so_far.bases in
    record {
      count = omega (arith, so_far.count, c.in_ok-push.ensures.len, more);
      passes = ap (map (λ s. s.pass)) items ∙ map_push (λ s. s.pass) sessions session
          ∙ ap (λ list. list ++ session.pass ∷ []) so_far.passes
          ∙ ap (λ p. yielded ++ p ∷ []) c.in-Ok.ensures.pass;
      bases = subst (λ n. AllZip (λ store s. s.base.now ≡ store.base) (take n stores) c.push.new.self.items)
          (sym more) bases;
    }

pub returns-clause-count : goal.returns-clause-count
returns-clause-count c =
    let from = c.into_iter-pass-iterator.ensures.into_iter_gives in
    let end =
    YieldsList-end (YieldsList-from_vec {s = c.into_iter-pass-iterator.result} c.args.passes.items from.0
    (from.1 ∙ c.args.passes.ok.0)) c.loop-pass.yielded
    c.loop-pass.pass-iterator c.loop-pass.yielded_by c.next.result c.next.new.self c.in-None.is c.next.ensures.steps in
    c.loop-pass.invariant.count ∙ end.1 ∙ AllZip-long IsOwn c.args.stores.now c.args.passes.items c.requires

pub returns-clause-passes : goal.returns-clause-passes
returns-clause-passes c =
    let from = c.into_iter-pass-iterator.ensures.into_iter_gives in
    let end =
    YieldsList-end (YieldsList-from_vec {s = c.into_iter-pass-iterator.result} c.args.passes.items from.0
    (from.1 ∙ c.args.passes.ok.0)) c.loop-pass.yielded
    c.loop-pass.pass-iterator c.loop-pass.yielded_by c.next.result c.next.new.self c.in-None.is c.next.ensures.steps in
    c.loop-pass.invariant.passes ∙ sym (map-id c.loop-pass.yielded) ∙ end.0

pub returns-clause-bases : goal.returns-clause-bases
returns-clause-bases c =
    let from = c.into_iter-pass-iterator.ensures.into_iter_gives in
    let end =
    YieldsList-end (YieldsList-from_vec {s = c.into_iter-pass-iterator.result} c.args.passes.items from.0
    (from.1 ∙ c.args.passes.ok.0)) c.loop-pass.yielded
    c.loop-pass.pass-iterator c.loop-pass.yielded_by c.next.result c.next.new.self c.in-None.is c.next.ensures.steps in
    bases_all (λ s. s.base.now) c.args.stores.now c.loop-pass.sessions.items (length c.loop-pass.yielded)
    (end.1 ∙ AllZip-long IsOwn c.args.stores.now c.args.passes.items c.requires) c.loop-pass.invariant.bases
