use Rattle.std.proofs.Common.{◌≡◌, length, vec_len, refl}
use Rattle.xa_manager.{specs.Said.IsListed, proofs.Said.each_lent}
use Rattle.xa_manager.proofs.manager.Manager.show.Goals as goal

pub returns-clause-answers : goal.returns-clause-answers
returns-clause-answers g c =
    let was = c.args.self.now in
    let items = c.in_ok-answers.answers.ok.0 in
    let each : vec_len c.in_ok-answers.answers ≡ length c.as_mut_slice.result.now = c.in_ok-answers.ensures.each in
    let value = c.as_mut_slice.ensures.value in
    let other_clients = was.other_clients.ok.0 in
    let pairs = was.pairs in
    record {
      listing = record { answers = c.in_ok-answers.answers };
      count = (cc);
      told = refl;
      each =
          each_lent g.T.Speak.view (IsListed c.in_ok-answers.answers.items) was.other_clients.items
          c.as_mut_slice.result.now c.listed_by_each.new.other_clients
          _ _ value other_clients c.listed_by_each.ensures.count c.in_ok-answers.ensures.listed;
      stands = refl;
    }
