use Rattle.std.{proofs.Common.{None, map, take, get_or, ap, sym, ◌∙◌}, specs.Option.option_map}
use Rattle.xa_record.{specs.{Exchanges.last_call, Kept.numbered_kept}, proofs.Exchanged.shown_there}
use Rattle.xa_record.proofs.exchanging.exchange_in.Goals as goal

pub returns : goal.returns
returns c =
    let numbered = c.args.numbered.now in
    let found = c.index-numbered-place.result in
    shown_there c.exchange_with.result numbered c.args.place (get_or numbered c.args.place found)
    (option_map (λ one. numbered_kept one.now) c.last_call_in-call.result) c.requires
    (ap (get_or numbered c.args.place) c.index-numbered-place.is)
    (ap (λ session. last_call session None (map numbered_kept (take c.args.place numbered))) (sym c.session.ensures)
    ∙ c.last_call_in-call.ensures)
    c.exchange_with.ensures
