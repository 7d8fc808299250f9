use Rattle.std.proofs.{Common.{◌≡◌, ◌+◌, length, ap, sym, ◌∙◌, drop, inl, inr}, lemmas.Bool.eqb-false}
use Rattle.std.specs.{Int.{w64, from_be_bytes}, Cmp.Lexicographic.other_text}
use Rattle.xa_xid.specs.declared.xid.Xid.{Xid}
use Rattle.xa_coordinator.{specs.Branch.branch_xid, proofs.Listed.{number_behind_is, one_fails}}
use Rattle.xa_coordinator.proofs.branch_name.number_of_branch.Goals as goal

pub returns-in_default-clause-none : goal.returns-in_default-clause-none
returns-in_default-clause-none c = λ number is.
    c.in_default.ensures.none
    (ap length c.as_slice.ensures.value
    ∙ (number_behind_is c.args.name.now.items number c.args.store c.args.xid.now is).0
    ∙ ap (λ n. n + 8) (sym c.len.ensures.value))

pub returns-else-eq-clause-none : goal.returns-else-eq-clause-none
returns-else-eq-clause-none c = λ number is.
    let same : c.in-Some.number ≡ number =
    c.in-Some.ensures.some ∙ ap (λ list. from_be_bytes w64 (drop c.len.result list)) c.as_slice.ensures.value
    ∙ ap (λ n. from_be_bytes w64 (drop n c.args.xid.now.gtrid.items)) c.len.ensures.value
    ∙ (number_behind_is c.args.name.now.items number c.args.store c.args.xid.now is).1 in
    let e : c.args.xid.now ≡ c.branch_xid.result = is.is ∙ ap (λ n. branch_xid c.args.name.now.items n c.args.store)
    (sym same) ∙ sym c.branch_xid.ensures in
    elim (one_fails _ _ _ (sym c.eq.ensures ∙ c.if-eq.false)) [
      | inl format ↦ eqb-false _ _ format (ap (λ (x : Xid). x.format_id) e)
      | inr texts ↦ elim texts [
        | inl gtrid ↦ other_text _ _ (sym gtrid) (ap (λ (x : Xid). x.gtrid.items) e)
        | inr bqual ↦ other_text _ _ (sym bqual) (ap (λ (x : Xid). x.bqual.items) e)
      ]
    ]
