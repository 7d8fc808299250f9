use Rattle.std.proofs.{Common.{length, refl}, lemmas.Option.slice_get_read}
use Rattle.xa_races.proofs.parting.first_fault.Goals as goal

pub returns-in-Some-clause-some : goal.returns-in-Some-clause-some
returns-in-Some-clause-some c = (
  c.one-item.result,
  c.loop-one.one-index,
  slice_get_read c.args.raced.now (length c.args.raced.now) c.loop-one.one-index c.one-item.result refl
      c.loop-one-test.true c.one-item.is,
  c.in-Some.is,
)
