use Rattle.std.proofs.Common.{ap, ◌∙◌, None}
use Rattle.xa_server.specs.{declared.association.Association.TheVariants.Free, State.State, Locks.is_held_against}
use Rattle.xa_server.{specs.{Step.with_write, View.state_of}, proofs.Outcomes.{either_way, on_ok, on_err}}
use Rattle.xa_server.proofs.Seen
use Rattle.xa_server.proofs.Steps
use Rattle.xa_server.proofs.Whole
use Rattle.xa_server.proofs.server.Server.delete_row.Goals as goal

pub invariant_of-self : goal.invariant_of-self
invariant_of-self c =
    either_way c.delete.result c.delete.ensures.ok c.delete.ensures.err
    (λ ok. rw ok (Whole.whole_deleted c.self.inside.branches c.self.inside.rows c.args.key.now
    (Seen.unheld_row c.self.inside.branches c.self.inside.rows c.args.key.now c.self.invariant
    (ap (λ s. is_held_against s Free c.args.key.now) c.self.view_is ∙ c.requires)) c.self.invariant))
    (λ err. rw err c.self.invariant)

pub returns-clause-ok : goal.returns-clause-ok
returns-clause-ok c = on_ok c.delete.result c.delete.ensures.ok (λ ok.
    ap (state_of c.self.inside.branches) ok
    ∙ Steps.seen_deleted c.self.inside.branches c.self.inside.rows c.args.key.now
    (Seen.unheld_row c.self.inside.branches c.self.inside.rows c.args.key.now c.self.invariant
    (ap (λ s. is_held_against s Free c.args.key.now) c.self.view_is ∙ c.requires))
    ∙ ap (λ (s : State). record s { rows = with_write c.args.key.now None s.rows }) c.self.view_is)

pub returns-clause-err : goal.returns-clause-err
returns-clause-err c =
    on_err c.delete.result c.delete.ensures.err (λ err. ap (state_of c.self.inside.branches) err ∙ c.self.view_is)
