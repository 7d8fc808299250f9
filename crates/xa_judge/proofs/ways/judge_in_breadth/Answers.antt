use Rattle.std.proofs.Common.{◌≡◌, ◌<◌, ◌+◌, [], take, length, refl, ap, sym, ◌∙◌, subst, arith}
use Rattle.std.{proofs.lemmas.Option.slice_get_read, specs.List.All}
use Rattle.xa_judge.specs.{Found.{Reaches, IsPathOf}, Advances.IsAdvance, Told.{no_report, IsSizeOfKept}}
use Rattle.xa_judge.proofs.Verdicts.{complete_more, reach_more, legal, refuted, answers_given, wide, opens_reached}
use Rattle.xa_judge.proofs.{Verdicts.{opens_complete, continues_shortened, some_shortened}, Told.report_more}
use Rattle.xa_judge.proofs.Late.{opens_kept, kept_on}
use Rattle.xa_judge.proofs.ways.judge_in_breadth.Goals as goal

pub loop-place-init : goal.loop-place-init
loop-place-init g c =
    let is = c.in_ok-known.ensures in
    let known = c.in_ok-known.known.items in
    record {
      some = omega (arith, ap length is.1);
      reach = subst (λ trunk. All (Reaches c.args.base.now [] trunk) known) (sym c.new-trunk.ensures.items)
          (opens_reached c.args.base.now known is);
      complete = opens_complete c.args.base.now known is;
      kept = opens_kept c.args.base.now c.args.events.now known is;
      one = λ first. ap length is.1;
      told = no_report;
    }

pub returns-in-Impossible-clause-verdict : goal.returns-in-Impossible-clause-verdict
returns-in-Impossible-clause-verdict g c =
    let event = c.index-events-place.result in
    let known = c.loop-place.known.items in
    let none = subst (λ a. IsAdvance known event c.args.limit a) c.in-Impossible.is c.in_ok-next.ensures in
    let within : c.loop-place.place < length c.args.events.now = omega (arith, c.loop-place-test.true) in (
      refuted c.args.base.now c.args.events.now c.loop-place.place event c.loop-place.trunk.items known within
          c.index-events-place.is
          c.loop-place.invariant.some c.loop-place.invariant.reach c.loop-place.invariant.complete none.0,
      answers_given c.args.base.now c.args.events.now c.loop-place.place event c.loop-place.trunk.items known
          c.in-Impossible.answers.items
          (slice_get_read c.args.events.now (length c.args.events.now) c.loop-place.place event refl within
          c.index-events-place.is)
          c.loop-place.invariant.reach c.loop-place.invariant.complete none.1,
    )

pub returns-in-TooMany-clause-verdict : goal.returns-in-TooMany-clause-verdict
returns-in-TooMany-clause-verdict g c =
    let event = c.index-events-place.result in
    let known = c.loop-place.known.items in
    let many = subst (λ a. IsAdvance known event c.args.limit a) c.in-TooMany.is c.in_ok-next.ensures in
    let within : c.loop-place.place < length c.args.events.now = omega (arith, c.loop-place-test.true) in
    wide c.args.base.now c.args.events.now c.args.limit c.loop-place.place event c.loop-place.trunk.items known many.0
    within
    (slice_get_read c.args.events.now (length c.args.events.now) c.loop-place.place event refl within
    c.index-events-place.is)
    c.loop-place.invariant.reach c.loop-place.invariant.kept many.1 many.2 many.3

pub returns-in-Impossible-clause-told : goal.returns-in-Impossible-clause-told
returns-in-Impossible-clause-told g c =
    let events = c.args.events.now in
    let shown = c.as_slice.ensures.value in
    let is = c.loop-place.invariant in
    let fit : IsSizeOfKept c.args.base.now events c.loop-place.place (length c.as_slice.result.now) =
    record {
      known = c.loop-place.known.items;
      length_is = ap length shown;
      is_size = record {
        some = omega (arith, ap length shown, is.some);
        one = λ first. ap length shown ∙ is.one first;
      };
      trunk = c.loop-place.trunk.items;
      reach = is.reach;
      complete = is.complete;
      kept = is.kept;
    } in
    report_more is.told fit c.tell.ensures

pub returns-in-TooMany-clause-told : goal.returns-in-TooMany-clause-told
returns-in-TooMany-clause-told g c =
    let events = c.args.events.now in
    let shown = c.as_slice.ensures.value in
    let is = c.loop-place.invariant in
    let fit : IsSizeOfKept c.args.base.now events c.loop-place.place (length c.as_slice.result.now) =
    record {
      known = c.loop-place.known.items;
      length_is = ap length shown;
      is_size = record {
        some = omega (arith, ap length shown, is.some);
        one = λ first. ap length shown ∙ is.one first;
      };
      trunk = c.loop-place.trunk.items;
      reach = is.reach;
      complete = is.complete;
      kept = is.kept;
    } in
    report_more is.told fit c.tell.ensures

pub loop-place-preserved : goal.loop-place-preserved
loop-place-preserved g c =
    let base = c.args.base.now in
    let events = c.args.events.now in
    let place = c.loop-place.place in
    let event = c.index-events-place.result in
    let known = c.loop-place.known.items in
    let next = c.in-Known.next.items in
    let trunk = c.loop-place.trunk.items in
    let longer = c.share.new.trunk.items in
    let new = c.share.new.known.items in
    let within : place < length events = omega (arith, c.loop-place-test.true) in
    let leads = subst (λ a. IsAdvance known event c.args.limit a) c.in-Known.is c.in_ok-next.ensures in
    let shown = c.as_slice.ensures.value in
    let is = c.loop-place.invariant in
    let fit : IsSizeOfKept base events place (length c.as_slice.result.now) =
    record {
      known = known;
      length_is = ap length shown;
      is_size = record {
        some = omega (arith, ap length shown, is.some);
        one = λ first. ap length shown ∙ is.one first;
      };
      trunk = trunk;
      reach = is.reach;
      complete = is.complete;
      kept = is.kept;
    } in
    record {
      some = some_shortened trunk longer next new c.in_ok-share.ensures (omega (arith, leads.0, c.in-Known.next.ok.0));
      one = λ first. absurd (omega (arith, first));
      told = report_more c.loop-place.invariant.told fit c.tell.ensures;
      reach =
          c.in_ok-share.ensures.reach base (take (place + 1) events)
          (reach_more base events place event trunk known next within c.index-events-place.is
          c.loop-place.invariant.reach leads.2);
      complete = λ more moves end runs.
          continues_shortened trunk longer next new more end c.in_ok-share.ensures
          (complete_more base events place event known next within c.index-events-place.is
          c.loop-place.invariant.complete leads.1 more moves end runs);
      kept =
          kept_on base events place event trunk longer known next new
          (slice_get_read events (length events) place event refl within c.index-events-place.is)
          c.loop-place.invariant.kept leads.3 c.in_ok-share.ensures;
    }

pub returns-clause-verdict : goal.returns-clause-verdict
returns-clause-verdict g c =
    let base = c.args.base.now in
    let events = c.args.events.now in
    let trunk = c.loop-place.trunk.items in
    let known = c.loop-place.known.items in
    let end : c.loop-place.place ≡ length events =
    omega (arith, c.loop-place-test.false, c.loop-place.auto.place-end) in
    legal base events trunk c.in_ok-path_of.field-0.items known
    (subst (λ n. All (Reaches base (take n events) trunk) known) end c.loop-place.invariant.reach)
    (subst (λ l. IsPathOf trunk l c.in_ok-path_of.field-0.items) c.as_slice-2.ensures.value c.in_ok-path_of.ensures)
