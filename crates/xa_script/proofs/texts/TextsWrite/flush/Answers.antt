use Rattle.std.proofs.Common.{drop}
use Rattle.xa_script.{proofs.Owed.{all_given, on_ok}, specs.Owing.known_of}
use Rattle.xa_script.proofs.texts.TextsWrite.flush.Goals as goal

pub returns-clause-all : goal.returns-clause-all
returns-clause-all g c =
    let settled = c.settle.new.self in
    on_ok c.flush.result
    (all_given (known_of g.W.Write.contents c.args.self.now) (g.W.Write.contents settled.inner)
    (g.W.Write.contents c.flush.new.self)
    (drop settled.given settled.due.items) settled.held.items c.in_ok-settle.ensures.kept c.in_ok-settle.ensures.due
    c.in_ok-settle.ensures.held
    c.flush.ensures.bytes)
