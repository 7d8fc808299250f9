use Rattle.std.proofs.{Common.{ap, sym, ◌∙◌, ◌+◌, Some, drop, length, refl}, lemmas.Option.slice_get_read}
use Rattle.std.specs.Option.{option_map}
use Rattle.xa_judge.{specs.Found.config_of, proofs.Steps.{event_leads, drop_got}}
use Rattle.xa_judge.proofs.following.Following.after_event.Goals as goal

pub returns-in-Some-2 : goal.returns-in-Some-2
returns-in-Some-2 c later end =
    let found =
    slice_get_read c.args.events.now (length c.args.events.now) c.args.self.seen c.in-Some.event.now refl
    c.in-Some.ensures.lookup.3.0 c.in-Some.ensures.lookup.1 in
    event_leads (config_of c.args.self.one) (config_of c.without_path.result) c.in-Some.event.now
    (drop c.args.self.seen c.args.events.now)
    (drop (c.args.self.seen + 1) c.args.events.now) later end
    (drop_got c.args.events.now c.args.self.seen c.in-Some.event.now found)
    (sym c.in_ok-observed-in-Some.ensures.config ∙ ap (option_map config_of) c.in-Some-2.is
    ∙ ap Some (sym c.without_path.ensures.config))
