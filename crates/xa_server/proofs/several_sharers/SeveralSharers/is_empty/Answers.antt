use Rattle.std.proofs.{Common.{sym, ◌∙◌, arith}, lemmas.Bool.Decides.nat_tests}
use Rattle.xa_server.proofs.Sharing.{none_in, none_of}
use Rattle.xa_server.proofs.several_sharers.SeveralSharers.is_empty.Goals as goal

pub returns-then-is_empty : goal.returns-then-is_empty
returns-then-is_empty c =
    let count = c.self.inside.few.ok.0 in
    let tests = c.if-is_empty.ensures in (
      (λ yes. sym c.self.view_is ∙ none_in c.self.inside.few.items c.self.inside.many (grind (arith, nat_tests))
          (c.is_empty-then-is_empty.ensures.0 yes)),
      (λ none. c.is_empty-then-is_empty.ensures.1 (none_of c.self.inside.few.items c.self.inside.many
          (c.self.view_is ∙ none)).1),
    )

pub returns-else-is_empty : goal.returns-else-is_empty
returns-else-is_empty c =
    let count = c.self.inside.few.ok.0 in (
      (λ yes. grind arith),
      (λ none. let nobody = (none_of c.self.inside.few.items c.self.inside.many (c.self.view_is ∙ none)).0 in
          grind (arith, nat_tests)),
    )
