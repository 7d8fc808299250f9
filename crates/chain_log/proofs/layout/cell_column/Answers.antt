use Rattle.std.proofs.Common.{◌+◌, ◌-◌, ◌%◌, ap, ◌∙◌}
use Rattle.chain_log.proofs.KeptColumns.{column_of_name}
use Rattle.chain_log.proofs.layout.cell_column.Goals as goal

pub returns : goal.returns
returns c = λ row session low high is. ap (λ name. (name - 1) % c.args.sessions + 1) is
    ∙ column_of_name c.args.sessions row session low high
