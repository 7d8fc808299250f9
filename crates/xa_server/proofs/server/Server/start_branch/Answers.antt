use Rattle.std.proofs.Common.{◌≡◌, ◌≢◌, ℕ, refl, ap, sym, ◌∙◌, false, Some, None, Option}
use Rattle.std.specs.{Prelude.{is_some, is_none}, Option.{option_map, option_and_then}}
use mathlib.Core.Bool.{true≢false}
use Rattle.xa_xid.specs.declared.xid.Xid.{Xid}
use Rattle.xa_server.specs.{declared.branch.{BranchRecord.BranchRecord, Phase.Phase}, Tables.{BranchMap, owner_of}}
use Rattle.xa_server.specs.{declared.association.Association.TheVariants.{Free, Active, Idle}, Rows.RowMap}
use Rattle.xa_server.specs.{State.{is_known, is_prepared_phase, association_of}, Step.{started_by, with_branch}}
use Rattle.xa_server.{specs.View.{state_of, IsWhole}, proofs.{Outcomes.{either_way, on_ok}, Index.not_none}}
use Rattle.std.specs.FinMap as map
use Rattle.xa_server.proofs.Seen
use Rattle.xa_server.proofs.Steps
use Rattle.xa_server.proofs.Whole
use Rattle.xa_server.proofs.server.Server.start_branch.Goals as goal

unknown : (branches : BranchMap) (rows : RowMap) (xid : Xid) → is_known (state_of branches rows) xid ≡ false
    → map.get branches xid ≡ None
unknown branches rows xid e = by (map.get branches xid) (sym (Seen.is_known-seen branches rows xid) ∙ e)
  where
    by : (found : Option BranchRecord) → is_some found ≡ false → found ≡ None
    by None e = refl
    by (Some branch) e = absurd (true≢false e)

-- a session that is free owns no branch
free : (branches : BranchMap) (rows : RowMap) (session : ℕ) → IsWhole branches rows
    → association_of (state_of branches rows) session ≡ Free → (other : Xid)
    → owner_of branches other ≢ Some session
free branches rows session whole association other owner = by (map.get branches other) refl
  where
    at : (branch : BranchRecord) (phase : Phase) → branch.phase ≡ phase → map.get branches other ≡ Some branch → ⊥
    at branch Phase.Active p is =
        let clash : Active other ≡ Free =
        sym (Seen.association-owned branches rows session other (Some Phase.Active) whole owner
        (ap (option_map (λ (b : BranchRecord). b.phase)) is ∙ ap Some p))
        ∙ association in cc
    at branch Phase.Idle p is =
        let clash : Idle other ≡ Free =
        sym (Seen.association-owned branches rows session other (Some Phase.Idle) whole owner
        (ap (option_map (λ (b : BranchRecord). b.phase)) is ∙ ap Some p))
        ∙ association in cc
    at branch Phase.Prepared p is =
        true≢false (sym (whole.attached other branch is ∙ ap is_prepared_phase p)
        ∙ ap is_none (sym (ap (option_and_then (λ (b : BranchRecord). b.owner)) is) ∙ owner))

    by : (found : Option BranchRecord) → map.get branches other ≡ found → ⊥
    by None is = not_none session (sym (ap (option_and_then (λ (b : BranchRecord). b.owner)) is) ∙ owner)
    by (Some branch) is = at branch branch.phase refl is

pub start-requires-clause-unknown : goal.start-requires-clause-unknown
start-requires-clause-unknown c =
    unknown c.self.inside.branches c.self.inside.rows c.args.xid.now
    (ap (λ s. is_known s c.args.xid.now) c.self.view_is ∙ c.requires.unknown)

pub start-requires-clause-free : goal.start-requires-clause-free
start-requires-clause-free c =
    free c.self.inside.branches c.self.inside.rows c.args.session c.self.invariant
    (ap (λ s. association_of s c.args.session) c.self.view_is ∙ c.requires.free)

pub invariant_of-self : goal.invariant_of-self
invariant_of-self c =
    either_way c.start.result c.start.ensures.ok c.start.ensures.err
    (λ ok. rw ok (Whole.whole_started c.self.inside.branches c.self.inside.rows c.args.xid.now _ c.args.session
    (unknown c.self.inside.branches c.self.inside.rows c.args.xid.now
    (ap (λ s. is_known s c.args.xid.now) c.self.view_is ∙ c.requires.unknown)) refl refl refl
    (free c.self.inside.branches c.self.inside.rows c.args.session c.self.invariant
    (ap (λ s. association_of s c.args.session) c.self.view_is ∙ c.requires.free))
    c.self.invariant))
    (λ err. rw err c.self.invariant)

pub returns-clause-ok : goal.returns-clause-ok
returns-clause-ok c = on_ok c.start.result c.start.ensures.ok (λ ok.
    ap (λ b. state_of b c.self.inside.rows) ok
    ∙ Steps.seen_inserted c.self.inside.branches c.self.inside.rows c.args.xid.now _
    ∙ ap (with_branch (state_of c.self.inside.branches c.self.inside.rows) c.args.xid.now)
    (Steps.seen_fresh c.self.inside.rows c.args.xid.now c.args.session
    (λ key. Seen.unknown_holds c.self.inside.branches c.self.inside.rows c.args.xid.now key c.self.invariant
    (unknown c.self.inside.branches c.self.inside.rows c.args.xid.now
    (ap (λ s. is_known s c.args.xid.now) c.self.view_is ∙ c.requires.unknown))))
    ∙ ap (λ s. with_branch s c.args.xid.now (started_by c.args.session)) c.self.view_is)
