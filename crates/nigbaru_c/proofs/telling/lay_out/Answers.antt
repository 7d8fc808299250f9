use Rattle.std.proofs.{Common.{◌≡◌, ◌∙◌, ◌<◌, length, sym, subst, arith}, lemmas.List.{length-set, get_or_default}}
use Rattle.xa_xid.specs.declared.xid.Xid.{Xid}
use Rattle.nigbaru_c.{specs.Telling.IsLaid, proofs.Laying.{laid_more, kept_more}}
use Rattle.nigbaru_c.proofs.telling.lay_out.Goals as goal

pub loop-index-preserved : goal.loop-index-preserved
loop-index-preserved c =
    let parts = c.loop-index.parts in
    let xids = c.args.xids.now in
    let index = c.loop-index.index in
    let xid = c.index-xids-index.result in
    let room : index < length parts =
    omega (arith, c.loop-index-test.true, c.min-index-end.ensures, c.loop-index.invariant.0) in
    let there : index < length xids = omega (arith, c.loop-index-test.true, c.min-index-end.ensures) in (
      length-set parts index c.of.result ∙ c.loop-index.invariant.0,
      laid_more xids parts index c.of.result room
          (λ d. subst (λ (other : Xid). IsLaid other c.of.result)
          (c.index-xids-index.is ∙ get_or_default xids index xid d there) c.of.ensures)
          c.loop-index.invariant.1,
      kept_more parts c.args.parts.now index c.of.result c.loop-index.invariant.2,
    )
