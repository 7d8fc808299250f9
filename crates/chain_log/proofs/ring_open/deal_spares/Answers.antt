use Rattle.std.{proofs.{Common.{◌≡◌, ◌+◌, subst, sym, rules}, lemmas.List.Elements.All-push}, specs.List.All}
use Rattle.chain_log.specs.{RingPass.identity_of, RingSpare.{spare_log_of, spare_known_of}}
use Rattle.chain_log.proofs.{Dealt.numbered_more, RingSeats.keeps_seats}
use Rattle.chain_log.proofs.ring_open.deal_spares.Goals as goal

pub issue-seat-requires-clause-rule : goal.issue-seat-requires-clause-rule
issue-seat-requires-clause-rule c = keeps_seats

pub loop-index-preserved : goal.loop-index-preserved
loop-index-preserved c =
    let log = c.args.log.now in
    let old = c.loop-index.spares.items in
    let new = c.push.new.self.items in
    let items = c.in_ok-push.ensures.items in
    record {
      rest = c.issue-seat.ensures.seat;
      next = search rules;
      count = search rules;
      belongs = subst (λ xs. All (λ spare. spare_log_of spare ≡ identity_of log) xs) (sym items)
          (All-push (λ spare. spare_log_of spare ≡ identity_of log) old _ c.loop-index.invariant.belongs
          (search rules));
      numbers = (numbered_more spare_known_of (λ place. log.sessions + place + 1) c.loop-index._index old new _ items
          c.loop-index.invariant.count (search rules) (record { at = c.loop-index.invariant.numbers })).at;
    }
