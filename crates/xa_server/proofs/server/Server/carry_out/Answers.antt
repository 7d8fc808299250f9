use Rattle.xa_server.proofs.Accepted
use Rattle.xa_server.proofs.server.Server.carry_out.Goals as goal

pub start_branch-requires-clause-unknown : goal.start_branch-requires-clause-unknown
start_branch-requires-clause-unknown c =
    (Accepted.accepted_start c.args.self.now _ c.in-Start.xid
    (Accepted.accepted_there c.args.self.now c.args.session _ (rw c.in-Start.is at c.requires))).1

pub start_branch-requires-clause-free : goal.start_branch-requires-clause-free
start_branch-requires-clause-free c =
    (Accepted.accepted_start c.args.self.now _ c.in-Start.xid
    (Accepted.accepted_there c.args.self.now c.args.session _ (rw c.in-Start.is at c.requires))).0

pub end_work-requires : goal.end_work-requires
end_work-requires c =
    Accepted.accepted_end c.args.self.now _ c.in-End.xid (Accepted.open_association c.args.self.now c.args.session)
    (Accepted.accepted_there c.args.self.now c.args.session _ (rw c.in-End.is at c.requires))

pub end_branch-requires : goal.end_branch-requires
end_branch-requires c =
    Accepted.accepted_commit c.args.self.now _ c.in-Commit.xid c.in-Commit.one_phase
    (Accepted.open_association c.args.self.now c.args.session)
    (Accepted.accepted_there c.args.self.now c.args.session _ (rw c.in-Commit.is at c.requires))

pub end_branch-requires-in-Rollback : goal.end_branch-requires-in-Rollback
end_branch-requires-in-Rollback c =
    Accepted.accepted_rollback c.args.self.now _ c.in-Rollback.xid
    (Accepted.open_association c.args.self.now c.args.session)
    (Accepted.accepted_there c.args.self.now c.args.session _ (rw c.in-Rollback.is at c.requires))
