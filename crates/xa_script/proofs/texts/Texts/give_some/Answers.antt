use Rattle.std.{proofs.Common.{◌+◌, ℕ, List, subst, drop}, specs.Io.KnownBytes.{Keeps, append_known}}
use Rattle.xa_script.proofs.Owed.{given_more}
use Rattle.xa_script.proofs.texts.Texts.give_some.Goals as goal

pub returns-clause-sent : goal.returns-clause-sent
returns-clause-sent g c =
    let before = g.W.Write.contents c.args.self.now.inner in
    let after = g.W.Write.contents c.write.new.self in
    let given = c.args.self.now.given in
    let count = c.in_ok-count.count in
    let P : List ℕ → Type 0 = λ due. Keeps (append_known before (drop given due))
    (append_known after (drop (given + count) due)) in
    subst P c.as_slice.ensures.value
    (given_more before after c.as_slice.result.now given count c.in_ok-count.ensures.bytes)
