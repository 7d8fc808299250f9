use Rattle.std.proofs.Common.{◌∙◌, ◌-◌, ◌++◌, ◌∷◌, [], Vec, Global, ap, refl, arith}
use Rattle.xa_xid.specs.declared.statement.Statement.{Statement}
use Rattle.xa_races.proofs.ReadLines.{gains}
use Rattle.xa_races.proofs.race_lines.push_statement.Goals as goal

pub returns-clause-gains : goal.returns-clause-gains
returns-clause-gains c =
    gains (λ list. list.items) c.args.lists.now.items _ c.args.session
    (c.get.result - 1) c.push.new.self c.index_mut.result.now c.args.statement
    (omega (arith, c.get.ensures.value, c.get.ensures.in_range)) (ap (λ n. n - 1) c.get.ensures.value)
    (omega (arith, c.requires, c.args.lists.now.ok.0, c.get.ensures.value, c.get.ensures.in_range)) refl
    (c.in_ok-push.ensures.items ∙ ap (λ (list : Vec Statement Global). list.items
    ++ c.args.statement ∷ []) c.index_mut.ensures.value)
