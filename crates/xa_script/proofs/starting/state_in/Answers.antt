use Rattle.std.proofs.Common.{ℕ, List, IfSome, subst}
use Rattle.xa_record.specs.States.{IsStateOf}
use Rattle.xa_script.proofs.Allowed.{read_whole}
use Rattle.xa_script.proofs.starting.state_in.Goals as goal

pub returns : goal.returns
returns g c =
    let P : List ℕ → Type 0 = λ text. IfSome c.in_ok-found.found (IsStateOf text) in
    read_whole P _ _ c.in_ok-text.text.items c.in_ok-text.ensures.all c.in_ok-text.ensures.end
    (subst P c.as_slice.ensures.value c.in_ok-found.ensures)
