use Rattle.std.proofs.Common.{inl, subst}
use Rattle.xa_lines.specs.{Answer.bytes_of, Script.{Line, line_of}, Statements.IsAnswerTo}
use Rattle.xa_lines.proofs.Told.{blank_answered, bad_answered}
use Rattle.xa_lines.proofs.statements.ServerLineServer.answer.Goals as goal

pub returns-in-Blank : goal.returns-in-Blank
returns-in-Blank c = inl (blank_answered c.args.self.now (line_of c.args.line.now) _ c.in-Blank.ensures c.new.ensures)

pub returns-in-Bad : goal.returns-in-Bad
returns-in-Bad c =
    inl (bad_answered c.args.self.now (line_of c.args.line.now) _ c.in-Bad.ensures c.bad_line.ensures.bytes)

pub returns-in-Given : goal.returns-in-Given
returns-in-Given c =
    let P : Line → Type 0 = λ line. IsAnswerTo c.args.self.now line
    (bytes_of c.serve_given.result) c.serve_given.new.server in
    subst P c.in-Given.ensures c.serve_given.ensures
