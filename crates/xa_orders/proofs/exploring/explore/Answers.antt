use Rattle.std.{proofs.Common.{◌≡◌, ◌++◌, ◌∙◌, List, ℕ, length, ap, subst}, specs.Prelude.IfSome}
use Rattle.xa_server.specs.State.{State, no_state}
use Rattle.xa_orders.{specs.{Orders.{Parts, told_text, told_state, opening}, Found.IsLevel}, proofs.Ends.all_explored}
use Rattle.xa_orders.proofs.exploring.explore.Goals as goal

pub returns-clause-explored : goal.returns-clause-explored
returns-clause-explored c =
    let parts : Parts = record { before = c.args.before.now; beside = c.args.beside.now; later = c.args.later.now } in
    let first : c.as_slice.result.now ≡ told_text no_state c.args.before.now =
    c.as_slice.ensures.value ∙ c.in_ok-push_told.ensures.text
    ∙ ap (λ (l : List ℕ). l ++ told_text c.new-server.result c.args.before.now) c.new-first.ensures.items
    ∙ ap (λ (s : State). told_text s c.args.before.now) c.new-server.ensures in
    let state : c.push_told.new.server ≡ told_state no_state c.args.before.now =
    c.in_ok-push_told.ensures.server ∙ ap (λ (s : State). told_state s c.args.before.now) c.new-server.ensures in
    let found =
    subst
    (λ found. IfSome found
    (λ ways. IsLevel c.args.beside.now (opening c.args.beside.now c.push_told.new.server)
    (length c.args.beside.now) ways.items))
    c.in-Some.is c.in_ok-every_way.ensures.level in
    let level =
    subst (λ (s : State). IsLevel c.args.beside.now (opening c.args.beside.now s)
    (length c.args.beside.now) c.in-Some.ways.items) state found in
    all_explored parts c.as_slice.result.now c.in-Some.ways.items c.as_slice-in-Some.result.now
    c.in_ok-outcomes-in-Some.outcomes.items first
    c.as_slice-in-Some.ensures.value level c.in_ok-outcomes-in-Some.ensures
