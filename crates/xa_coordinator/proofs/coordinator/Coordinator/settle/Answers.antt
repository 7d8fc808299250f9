use Rattle.std.proofs.{Common.{◌≡◌, Bool, Ok, Err, sym, subst, refl}, lemmas.Result.err_from_is_err_and}
use Rattle.xa_coordinator.specs.{declared.{closing.Closing.Closing, report.Tally.Tally}, Branch.branch_xid}
use Rattle.xa_coordinator.specs.{Decisions.is_decided, Outcomes.finish_statement, Parts.{SaysAs, counted}}
use Rattle.xa_coordinator.specs.{Recovery.{SettlesOne, foreign, finish_decided, IsUnsettled}, Stores.AtStore}
use Rattle.xa_coordinator.proofs.{Walk.{at_same, at_weaker}, Settling.{settles, unsettled_by}}
use Rattle.xa_coordinator.proofs.coordinator.Coordinator.settle.Goals as goal

pub returns-in_default-clause-settled : goal.returns-in_default-clause-settled
returns-in_default-clause-settled g c =
    at_same g.S.Speak.view c.args.store
    (λ old new. SettlesOne c.args.decisions.now c.args.self.now.name.items c.args.store c.args.xid.now c.args.tally old
    c.args.tally new)
    (λ a. foreign (λ named. c.in_default.ensures.none named.0 named.1)) c.args.self.now.stores.items
    c.args.self.now.stores.items refl

pub returns-clause-settled : goal.returns-clause-settled
returns-clause-settled g c =
    let me = c.args.self.now in
    let decisions = c.args.decisions.now in
    let number = c.in-Some.number in
    let decided : Bool = c.is_decided-decided.result in
    let is : is_decided decisions number ≡ decided = sym c.is_decided-decided.ensures in
    subst (λ (tally : Tally). AtStore g.S.Speak.view c.args.store
    (λ old new. SettlesOne decisions me.name.items c.args.store c.args.xid.now c.args.tally old tally new)
    me.stores.items
    c.finish_branch.new.self.stores.items)
    (sym c.with_one.ensures.counted)
    (at_weaker g.S.Speak.view c.args.store
    (SaysAs (finish_statement (finish_decided decided) (branch_xid me.name.items number c.args.store))
    (Ok c.in_ok-found.found))
    (λ old new. SettlesOne decisions me.name.items c.args.store c.args.xid.now c.args.tally old
    (counted c.args.tally decided c.in_ok-found.found) new)
    (settles decisions me.name.items c.args.store number c.args.xid.now c.in-Some.ensures.some c.args.tally decided is
    c.in_ok-found.found)
    me.stores.items c.finish_branch.new.self.stores.items
    (subst (λ (closing : Closing). AtStore g.S.Speak.view c.args.store
    (SaysAs (finish_statement closing (branch_xid me.name.items number c.args.store))
    (Ok c.in_ok-found.found)) me.stores.items
    c.finish_branch.new.self.stores.items)
    c.finish_decided.ensures c.in_ok-found.ensures.finishes))

pub returns-in_err-found-clause-broken : goal.returns-in_err-found-clause-broken
returns-in_err-found-clause-broken g c =
    let me = c.args.self.now in
    let decisions = c.args.decisions.now in
    let number = c.in-Some.number in
    let decided : Bool = c.is_decided-decided.result in
    let is : is_decided decisions number ≡ decided = sym c.is_decided-decided.ensures in
    let p = err_from_is_err_and c.from_residual.result c.from_residual.ensures.1 in
    rw (p.1, p.2)
    (at_weaker g.S.Speak.view c.args.store
    (SaysAs (finish_statement (finish_decided decided) (branch_xid me.name.items number c.args.store))
    (Err c.in_err-found.field-0.0))
    (IsUnsettled decisions me.name.items c.args.store c.args.xid.now c.in_err-found.field-0.0)
    (unsettled_by decisions me.name.items c.args.store number c.args.xid.now c.in-Some.ensures.some decided is
    c.in_err-found.field-0.0)
    me.stores.items c.finish_branch.new.self.stores.items
    (subst (λ (closing : Closing). AtStore g.S.Speak.view c.args.store
    (SaysAs (finish_statement closing (branch_xid me.name.items number c.args.store))
    (Err c.in_err-found.field-0.0)) me.stores.items
    c.finish_branch.new.self.stores.items)
    c.finish_decided.ensures c.in_err-found.ensures.finishes))
