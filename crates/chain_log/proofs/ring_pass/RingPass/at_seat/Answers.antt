use Rattle.std.proofs.Common.{◌≡◌, [], length, ap, sym, ◌∙◌, arith, rules}
use Rattle.decision_log.specs.{Seats.pass_view, declared.view.PassView.PassView}
use Rattle.chain_log.{specs.Cells.newest_of, proofs.Names.name_zero}
use Rattle.chain_log.proofs.ring_pass.RingPass.at_seat.Goals as goal

pub invariant_of-result : goal.invariant_of-result
invariant_of-result c =
    let h = pass_view c.args.seat in
    let nothing : length h.known.seen ≡ 0 = ap (λ (k : PassView). length k.known.seen) c.requires.issued in
    record {
      held = c.requires.held;
      state = search rules;
      named = sym (ap (λ (k : PassView). newest_of k.sessions k.known.seen) c.requires.issued
          ∙ name_zero h.sessions []);
      kept = record { sized = search rules; filled = λ place low below. absurd (omega (arith, nothing)) };
      bottom = λ never. absurd (omega arith);
    }
