use Rattle.std.proofs.{Common.{◌≡◌, ◌≤◌, ◌+◌, ap, subst, sym, rules, arith}, lemmas.List.Elements.All-push}
use Rattle.std.specs.List.{All}
use Rattle.decision_log.specs.{declared.known.Known.Known, Known.newcomer}
use Rattle.chain_log.{specs.RingPass.{identity_of, log_of, known_of}, proofs.Dealt.numbered_more}
use Rattle.chain_log.proofs.RingSeats.{keeps_seats}
use Rattle.chain_log.proofs.ring_open.deal_all.Goals as goal

pub issue-seat-requires-clause-rule : goal.issue-seat-requires-clause-rule
issue-seat-requires-clause-rule c = keeps_seats

pub loop-index-preserved : goal.loop-index-preserved
loop-index-preserved c =
    let log = c.args.log.now in
    let pass = c.in_ok-at_seat.field-0 in
    let old = c.loop-index.passes.items in
    let new = c.push.new.self.items in
    let items = c.in_ok-push.ensures.items in
    let known : known_of pass ≡ newcomer (c.loop-index.index + 1) = search rules in
    let low : (known_of pass).number ≤ log.sessions = omega (arith, ap (λ (k : Known). k.number) known) in
    record {
      rest = c.issue-seat.ensures.seat;
      next = search rules;
      count = search rules;
      belongs = subst (λ xs. All (λ one. log_of one ≡ identity_of log) xs) (sym items)
          (All-push (λ one. log_of one ≡ identity_of log) old pass c.loop-index.invariant.belongs (search rules));
      numbers = (numbered_more known_of (λ place. place + 1) c.loop-index.index old new pass items
          c.loop-index.invariant.count known (record { at = c.loop-index.invariant.numbers })).at;
      low = subst (λ xs. All (λ one. (known_of one).number ≤ log.sessions) xs) (sym items)
          (All-push (λ one. (known_of one).number ≤ log.sessions) old pass c.loop-index.invariant.low low);
    }
