use Rattle.std.proofs.Common.{ap, ◌≡◌, ◌==◌, false, length, ◌+◌, refl, sym, ◌∙◌, map}
use Rattle.xa_audit.{specs.Branches.branch_in, proofs.Stores.{added, blamed}}
use Rattle.xa_audit.proofs.audit.Audit.add.Goals as goal

pub returns-in_ok-push_lives-clause-audit : goal.returns-in_ok-push_lives-clause-audit
returns-in_ok-push_lives-clause-audit c = λ histories is.
    added histories c.args.history.now c.args.self.now c.push_lives.new.self
    (map (branch_in (c.args.self.now.stores + 1)) c.in_ok-lives.lives.entries) is
    c.in_ok-push_lives.ensures.stores
    (ap (λ faults. faults.items) c.in_ok-push_lives.ensures.faults ∙ c.in_ok-push_faults.ensures) (
      c.in_ok-lives.lives.entries,
      record
          { ascending = c.in_ok-push_lives.ensures.ordered; found = c.in_ok-lives.ensures },
      refl,
    )
    c.in_ok-push_lives.ensures.added

pub returns-else-is_empty-clause-audit : goal.returns-else-is_empty-clause-audit
returns-else-is_empty-clause-audit c = λ histories is.
    let size = c.push_faults.new.faults.ok.0 in
    let some = sym c.is_empty.ensures ∙ c.if-is_empty.false in
    let filled : (length c.push_faults.new.faults.items == 0) ≡ false = cc (size, some) in
    blamed histories c.args.history.now c.args.self.now _ is refl c.in_ok-push_faults.ensures filled
