use Rattle.std.proofs.{Common.{◌≡◌, [], ◌∷◌, ◌++◌, sym, subst, arith}, lemmas.List.length-append}
use Rattle.std.{proofs.lemmas.Slice.Zip.all_zipped_more, specs.List.AllZip}
use Rattle.xa_races.specs.declared.{long_run.LongRun.LongRun, racer.Racer.Racer}
use Rattle.xa_races.proofs.long_racing.line_up.Goals as goal

pub loop-run-preserved : goal.loop-run-preserved
loop-run-preserved g c =
    let inv = c.loop-run.invariant in
    let more = length-append c.loop-run.yielded (c.in-Some.run' ∷ []) in
    let Lined : LongRun → Racer g.row.G.Denot → Type 0 =
    λ run racer. (racer.session ≡ run.session) × (racer.lines.items ≡ run.lines.items)
    × (racer.gate.now ≡ c.args.gate.now) in (
      subst (λ items. AllZip Lined (c.loop-run.yielded ++ c.in-Some.run' ∷ []) items)
          (sym c.push_reserved.ensures.items)
          (all_zipped_more Lined c.loop-run.yielded c.loop-run.racers.items c.in-Some.run' c.in_ok-racer.racer inv.0
          c.in_ok-racer.ensures),
      omega (arith, more, inv.1, c.push_reserved.ensures.len),
      omega (arith, inv.2, c.push_reserved.ensures.capacity),
    )
