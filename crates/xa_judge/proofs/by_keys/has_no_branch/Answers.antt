use Rattle.std.proofs.{Common.{◌≡◌, length, vec_len, sym, ◌∙◌, arith}, lemmas.{Bool.eqb-true, List.nil_from_length}}
use Rattle.xa_judge.proofs.KeyStates.{none_listed}
use Rattle.xa_judge.proofs.by_keys.has_no_branch.Goals as goal

pub returns : goal.returns
returns c empty =
    let found = c.in_ok-branches.branches in
    let none : vec_len found ≡ 0 = eqb-true (vec_len found) 0 (sym c.is_empty.ensures ∙ empty) in
    let zero : length found.items ≡ 0 = omega (arith, none, found.ok.0) in
    none_listed c.args.base.now (sym c.in_ok-branches.ensures.listed ∙ nil_from_length found.items zero)
