use Rattle.std.proofs.Common.{◌≡◌, ◌∙◌, vec_len, refl, sym}
use Rattle.xa_manager.proofs.States.{same_open}
use Rattle.xa_manager.proofs.beside.Manager+Fused+S+T.show_beside.Goals as goal

pub returns-clause-answers : goal.returns-clause-answers
returns-clause-answers g c =
    let was = c.args.self.now.coordinator.stores in
    let now = c.listed_beside.new.coordinator.stores in
    let said = c.listed_beside.ensures in
    let count : vec_len now ≡ vec_len was = now.ok.0 ∙ said.count ∙ sym was.ok.0 in
    record {
      listing = record { answers = c.in_ok-answers.answers };
      count = sym c.in_ok-answers.answers.ok.0 ∙ c.in_ok-answers.ensures.each;
      told = refl;
      each = c.in_ok-answers.ensures.listed;
      alone = said.alone;
      stands = same_open _ _ _ _ _ _ _ _ count said.branches;
    }
