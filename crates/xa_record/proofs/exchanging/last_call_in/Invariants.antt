use Rattle.std.{proofs.Common.{◌≡◌, None, map, drop}, specs.Option.option_map}
use Rattle.xa_record.specs.{Exchanges.last_call, Kept.numbered_kept}
use Rattle.xa_record.proofs.exchanging.last_call_in.Given as goal

abbrev pub invariant-loop-one : goal.invariant-loop-one
invariant-loop-one l =
    last_call l.session None (map numbered_kept l.numbered)
    ≡ last_call l.session (option_map (λ one. numbered_kept one.now) l.found)
    (map numbered_kept (drop l.one-index l.numbered))
