use Rattle.std.proofs.Common.{sym, subst, arith, set, replicate, false, true}
use Rattle.xa_judge.specs.{Explained.IsSession, Found.config_of, Persistent.{IsIn, AreApartFrom}}
use Rattle.xa_judge.proofs.Sets.{set_in, none_in, done_more, all_persistent}
use Rattle.xa_judge.proofs.persistent.persistent_on.Goals as goal

pub loop-init : goal.loop-init
loop-init c = record {
  has = subst (λ n. IsIn (set (replicate 17 false) c.get.result true) n) c.get.ensures.value
      (set_in (replicate 17 false) c.get.result (omega (arith, c.get.ensures.in_range)));
  done = λ inside is has. absurd (none_in 17 inside has);
}

pub loop-preserved : goal.loop-preserved
loop-preserved c =
    let config = config_of c.args.one.now in
    let all = c.loop.all in
    let new = c.add_all.new.all in
    let grown = c.in_ok-add_all-in-Some.ensures in
    record {
      has = grown.grows c.args.session c.loop.invariant.has;
      done = done_more config all new c.loop.done c.get-in-Some.result grown.grows c.loop.invariant.done
          (subst (λ n. AreApartFrom config new n 17) (sym c.get-in-Some.ensures.value) grown.apart);
    }

pub returns-in-None : goal.returns-in-None
returns-in-None c = record {
  has = c.loop.invariant.has;
  apart = λ inside is has. c.loop.invariant.done inside is (c.next_of.ensures c.in-None.is inside is has);
}

pub returns : goal.returns
returns c = all_persistent (config_of c.args.one.now) c.args.session
    (subst IsSession c.get.ensures.value c.get.ensures.in_range)
