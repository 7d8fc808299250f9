use Rattle.std.proofs.{Common.{◌∙◌, ◌∷◌, [], length-append, arith}, lemmas.Iterator.Adapters.YieldsList-from_vec}
use Rattle.std.proofs.lemmas.Iterator.Consumers.{YieldsList-turn, YieldsList-end}
use Rattle.xa_audit.specs.Audits.{IsAuditOf}
use Rattle.xa_script.proofs.Audited.{none_known, taken_more, taken_all}
use Rattle.xa_script.proofs.auditing.take_each.Goals as goal

pub loop-input-init : goal.loop-input-init
loop-input-init g c = record {
  stores = c.new-audit.ensures.stores;
  taken = λ histories e. none_known (λ texts. IsAuditOf texts c.new-audit.result) histories c.new-audit.ensures.audit e;
}

pub take_next-requires : goal.take_next-requires
take_next-requires g c =
    let from = c.into_iter-input-iterator.ensures.into_iter_gives in
    let turn =
    YieldsList-turn (YieldsList-from_vec {s = c.into_iter-input-iterator.result} c.args.inputs.items from.0
    (from.1 ∙ c.args.inputs.ok.0)) c.loop-input.yielded
    c.loop-input.input-iterator c.loop-input.yielded_by c.next.result c.next.new.self c.in-Some.input c.in-Some.is
    c.next.ensures.steps in
    omega (arith, turn.0, c.requires, c.loop-input.invariant.stores)

pub loop-input-preserved : goal.loop-input-preserved
loop-input-preserved g c =
    let so_far = c.loop-input.invariant in
    let yielded = c.loop-input.yielded in
    let input = c.in-Some.input in
    record {
      stores = omega (arith, so_far.stores, c.in_ok-take_next.ensures.stores, length-append yielded (input ∷ []));
      taken =
          taken_more yielded input (λ source. g.I.Read.remaining source.inner)
          (λ texts. IsAuditOf texts c.loop-input.audit)
          (λ texts. IsAuditOf texts c.take_next.new.audit) so_far.taken c.in_ok-take_next.ensures.taken;
    }

pub returns-clause-taken : goal.returns-clause-taken
returns-clause-taken g c =
    let from = c.into_iter-input-iterator.ensures.into_iter_gives in
    let end =
    YieldsList-end (YieldsList-from_vec {s = c.into_iter-input-iterator.result} c.args.inputs.items from.0
    (from.1 ∙ c.args.inputs.ok.0)) c.loop-input.yielded
    c.loop-input.input-iterator c.loop-input.yielded_by c.next.result c.next.new.self c.in-None.is
    c.next.ensures.steps in
    taken_all c.loop-input.yielded c.args.inputs.items (λ source. g.I.Read.remaining source.inner)
    (λ texts. IsAuditOf texts c.loop-input.audit) end.0
    c.loop-input.invariant.taken
