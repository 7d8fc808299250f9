use Rattle.std.{proofs.Common.{◌≡◌, refl, ap, sym, ◌∙◌, false, Some}, specs.Prelude.is_none}
use Rattle.std.specs.Option.{option_map, option_map_or}
use Rattle.xa_xid.specs.declared.xid.Xid.{Xid}
use Rattle.xa_server.specs.declared.branch.{BranchRecord.BranchRecord, Phase.TheVariants.Idle as PhaseIdle}
use Rattle.xa_server.specs.{State.{Branch, is_prepared, is_prepared_phase}, Step.with_changed, Tables.BranchMap}
use Rattle.xa_server.specs.{Rows.RowMap, View.{state_of, IsWhole}}
use Rattle.std.specs.FinMap as map
use Rattle.xa_server.proofs.Seen
use Rattle.xa_server.proofs.Steps
use Rattle.xa_server.proofs.Whole
use Rattle.xa_server.proofs.server.Server.end_work.Goals as goal

-- the record of the branch, IDLE
idle : BranchRecord → BranchRecord
idle branch = record branch { phase = PhaseIdle }

-- the branch, IDLE
idle_branch : Branch → Branch
idle_branch branch = record branch { phase = PhaseIdle }

-- a branch that isn't prepared has an owner
owned : (branches : BranchMap) (rows : RowMap) (xid : Xid) (branch : BranchRecord) → IsWhole branches rows
    → is_prepared (state_of branches rows) xid ≡ false
    → map.get branches xid ≡ Some branch → is_none branch.owner ≡ false
owned branches rows xid branch whole unprepared is =
    whole.attached xid branch is
    ∙ sym (ap (λ found. option_map_or is_prepared_phase (option_map (λ (b : BranchRecord). b.phase) found) false) is)
    ∙ sym (Seen.is_prepared-seen branches rows xid) ∙ unprepared

pub invariant_of-self : goal.invariant_of-self
unfolding idle
invariant_of-self c =
    rw c.end_work.ensures
    (Whole.whole_changed c.self.inside.branches c.self.inside.rows c.args.xid.now idle
    (λ branch is. owned c.self.inside.branches c.self.inside.rows c.args.xid.now branch c.self.invariant
    (ap (λ s. is_prepared s c.args.xid.now) c.self.view_is ∙ c.requires) is)
    (λ branch session e. e) (λ branch. refl) c.self.invariant)

pub returns : goal.returns
unfolding idle idle_branch
returns c =
    ap (λ b. state_of b c.self.inside.rows) c.end_work.ensures
    ∙ Steps.seen_changed c.self.inside.branches c.self.inside.rows c.args.xid.now idle idle_branch (λ branch. refl)
    ∙ ap (λ s. with_changed s c.args.xid.now idle_branch) c.self.view_is
