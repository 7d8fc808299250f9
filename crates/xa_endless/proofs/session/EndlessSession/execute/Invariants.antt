use Rattle.std.proofs.Common.{◌≤◌, ◌+◌}
use Rattle.chain_log.specs.RingPass.{known_of}
use Rattle.xa_session.specs.Answer.{IsUnanswered}
use Rattle.xa_endless.specs.Stays.{Stays}
use Rattle.xa_endless.proofs.session.EndlessSession.execute.Given as goal

abbrev pub invariant-loop : goal.invariant-loop
invariant-loop g l = record {
  can : (goal.iterator-loop g).can_next l.iterator';
  finite : (goal.iterator-loop g).is_finite l.iterator';
  stays : Stays l.fn.self l.self;
  unanswered : IsUnanswered (known_of l.fn.self.member.pass) (known_of l.self.member.pass);
  looks : (known_of l.self.member.pass).tries + (known_of l.fn.self.member.pass).looks
      ≤ (known_of l.self.member.pass).looks + (known_of l.fn.self.member.pass).tries;
}
