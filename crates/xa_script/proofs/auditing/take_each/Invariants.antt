use Rattle.std.proofs.Common.{◌≡◌, ℕ, List, length, map, Some}
use Rattle.xa_audit.specs.Audits.{IsAuditOf}
use Rattle.xa_script.proofs.auditing.take_each.Given as goal

abbrev pub invariant-loop-input : goal.invariant-loop-input
invariant-loop-input g l = record {
  stores : l.audit.stores ≡ length l.yielded;
  taken : (histories : List (List ℕ)) → map (λ input. g.I.Read.remaining input.inner) l.yielded ≡ map Some histories
      → IsAuditOf histories l.audit;
}
