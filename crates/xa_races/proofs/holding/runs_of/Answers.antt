use Rattle.std.proofs.{Common.{◌≡◌, length, sym, ◌∙◌, rules}, lemmas.Iterator.YieldsList-from_zip}
use Rattle.std.proofs.lemmas.Iterator.{Adapters.YieldsList-from_vec, Consumers.YieldsList-end}
use Rattle.std.specs.{Iterator.Adapters.{zip_first, zip_second}, Vec.Iter.{into_iter_items, into_iter_len}}
use Rattle.xa_races.proofs.RaceRuns.{map_same}
use Rattle.xa_races.proofs.holding.runs_of.Goals as goal

pub returns : goal.returns
returns c =
    let passes = c.args.passes.items in
    let lists = c.args.lists.items in
    let s = c.into_iter-pass-iterator.result in
    let a : into_iter_items (zip_first s) ≡ passes = search rules in
    let b : into_iter_len (zip_first s) ≡ length passes = search rules in
    let d : into_iter_items (zip_second s) ≡ lists = search rules in
    let e : into_iter_len (zip_second s) ≡ length lists = search rules in
    let all = YieldsList-from_zip {s = s} (YieldsList-from_vec {s = zip_first s} passes a b)
    (YieldsList-from_vec {s = zip_second s} lists d e) in
    let done = YieldsList-end all c.loop-pass.yielded c.loop-pass.pass-iterator c.loop-pass.yielded_by c.next.result
    c.next.new.self c.in-None.is c.next.ensures.steps in
    c.loop-pass.invariant ∙ sym (map_same c.loop-pass.yielded) ∙ done.0
