use Rattle.std.proofs.Common.{◌≡◌, subst}
use Rattle.xa_server.specs.{State.State, Locks.LockLaw, Tables.BranchMap, Rows.RowMap, View.{state_of, IsWhole}}
use Rattle.xa_server.proofs.LockLaws.{lock_law}
use Rattle.xa_server.proofs.server.Server.keeps_lock_law.Goals as goal

-- what the server keeps
kept : (branches : BranchMap) (rows : RowMap) (state : State) → state_of branches rows ≡ state → IsWhole branches rows
    → LockLaw state
kept branches rows state is whole = subst LockLaw is (lock_law branches rows whole)

pub returns : goal.returns
returns c = kept c.self.inside.branches c.self.inside.rows c.args.self.now c.self.view_is c.self.invariant
