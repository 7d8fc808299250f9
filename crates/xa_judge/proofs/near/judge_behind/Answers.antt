use Rattle.std.proofs.Common.{Option, IfSome, subst, rules}
use Rattle.xa_server.specs.State.{State}
use Rattle.xa_judge.specs.{Near.{named_in, AreNear, IsLoadedTo}, Told.no_pass}
use Rattle.xa_judge.proofs.near.judge_behind.Goals as goal

pub judge_later-requires-clause-near : goal.judge_later-requires-clause-near
judge_later-requires-clause-near g c =
    let keys = c.in_ok-keys.keys in
    let found = subst (λ (o : Option State). IfSome o (λ near. (full : State)
    × IsLoadedTo c.args.base.now c.split_at.result.0.now full × AreNear (named_in keys) full near))
    c.in-Some.is c.in_ok-found.ensures in
    record {
      keys = keys;
      full = found.0;
      loaded = found.1;
      is_near = found.2;
      named = c.all_named.ensures (search rules);
    }

pub returns-in-None-clause-told : goal.returns-in-None-clause-told
returns-in-None-clause-told g c = no_pass

pub returns-then-not-all_named-clause-told : goal.returns-then-not-all_named-clause-told
returns-then-not-all_named-clause-told g c = no_pass
