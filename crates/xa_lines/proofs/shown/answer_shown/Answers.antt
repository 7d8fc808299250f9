use Rattle.std.proofs.Common.{subst}
use Rattle.xa_lines.{specs.{Script.Line, Shown.IsAnswerShown}, proofs.Behind.blank_shown}
use Rattle.xa_lines.proofs.shown.answer_shown.Goals as goal

pub returns-in-Blank : goal.returns-in-Blank
returns-in-Blank c =
    let P : Line → Type 0 = λ line. IsAnswerShown c.args.server.now line c.new.result.items c.args.server.now in
    subst P c.in-Blank.ensures (blank_shown c.args.server.now _ c.new.ensures)
