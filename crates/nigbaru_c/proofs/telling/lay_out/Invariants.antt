use Rattle.std.proofs.Common.{◌≡◌, ◌<◌, ◌≤◌, ℕ, length, slice_index_or}
use Rattle.xa_xid.specs.declared.xid.Xid.{Xid}
use Rattle.nigbaru_c.specs.{declared.xid_part.XidPart.XidPart, Telling.IsLaid}
use Rattle.nigbaru_c.proofs.telling.lay_out.Given as goal

abbrev pub invariant-loop-index : goal.invariant-loop-index
invariant-loop-index l =
    (length l.parts ≡ length l.fn.parts)
    × ((k : ℕ) (d : Xid) (e : XidPart) → k < l.index → IsLaid (slice_index_or l.xids k d) (slice_index_or l.parts k e))
    × ((k : ℕ) (e : XidPart) → l.index ≤ k → slice_index_or l.parts k e ≡ slice_index_or l.fn.parts k e)
