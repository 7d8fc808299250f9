use Rattle.std.{proofs.Common.{◌≡◌, vec_len, length, map, take}, specs.List.AllZip}
use Rattle.xa_manager.proofs.run.connect_each.Given as goal

abbrev pub invariant-loop-pass : goal.invariant-loop-pass
invariant-loop-pass l = record {
  count : vec_len l.sessions ≡ length l.yielded;
  passes : map (λ session. session.pass) l.sessions.items ≡ l.yielded;
  bases : AllZip (λ store session. session.base.now ≡ store.base) (take (length l.yielded) l.stores) l.sessions.items;
}
