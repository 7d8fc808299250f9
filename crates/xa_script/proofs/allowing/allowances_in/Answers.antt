use Rattle.std.{proofs.Common.subst, specs.Option.option_map}
use Rattle.xa_script.{specs.Status.IsAllowedBy, proofs.Allowed.read_whole}
use Rattle.xa_script.proofs.allowing.allowances_in.Goals as goal

pub returns : goal.returns
returns g c =
    let list = option_map (λ list. list.items) c.in_ok-allowed.allowed in
    read_whole (IsAllowedBy list) _ _ c.in_ok-text.text.items c.in_ok-text.ensures.all c.in_ok-text.ensures.end
    (subst (IsAllowedBy list) c.as_slice.ensures.value c.in_ok-allowed.ensures)
