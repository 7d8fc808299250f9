use Rattle.std.proofs.{Common.{◌≡◌, ℕ, ◌<◌, length, get_or, ap, ◌∙◌, arith}, lemmas.List.get_or_read}
use Rattle.decision_log.specs.{Known.LogIdentity, Seats.pass_view}
use Rattle.chain_log.specs.{declared.pass.ChainPass.ChainPass, Cells.session_at}
use Rattle.chain_log.proofs.KeptColumns.{name_by_column, session_ranged}
use Rattle.chain_log.proofs.chain.ChainLog.find.Goals as goal

-- what is read in the table is whose entry stands in the row
column : (pass : ChainPass) (row read : ℕ) → row < length (pass_view pass.seat).known.seen
    → read ≡ get_or pass.columns.items row read
    → read ≡ session_at (pass_view pass.seat).known.seen row
column pass row read below is =
    get_or_read pass.columns.items row read (omega (arith, pass.kept.sized, pass.state.within)) is 0
    ∙ pass.kept.filled row below

pub cell_name-requires-clause-session : goal.cell_name-requires-clause-session
cell_name-requires-clause-session c =
    let pass : ChainPass = c.args.pass.now in
    let h = pass_view pass.seat in
    let few = session_ranged h.sessions h.known.seen c.args.row pass.state.among c.requires.seen in
    let same = ap (λ (identity : LogIdentity). identity.sessions) c.requires.belongs in
    omega (
      arith,
      few.1,
      same,
      c.from.ensures,
      column pass c.args.row c.index.result.now c.requires.seen
          c.index.ensures,
      c.args.self.now.high.0,
    )

pub returns : goal.returns
returns c =
    let pass : ChainPass = c.args.pass.now in
    c.cell_name.ensures
    ∙ name_by_column c.args.self.now.sessions (pass_view pass.seat).known.seen c.args.row c.from.result
    (c.from.ensures ∙ column pass c.args.row c.index.result.now c.requires.seen c.index.ensures)
