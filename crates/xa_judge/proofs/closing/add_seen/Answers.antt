use Rattle.std.{proofs.Common.{◌≡◌, ◌++◌, ◌∷◌, [], sym, ap, ◌∙◌, inr, subst, Option, Some}, specs.Prelude.IfSome}
use Rattle.std.specs.Option.{option_map}
use Rattle.xa_judge.specs.{declared.{moves.Move.Move, configuration.Configuration.Configuration}, Found.config_of}
use Rattle.xa_judge.proofs.closing.add_seen.Goals as goal

-- the path that led to what was found
path_to : (one next : Configuration) (found : Option Configuration) → found ≡ Some next
    → IfSome found (λ n. n.path ≡ one.path ++ Move.Event ∷ [])
    → next.path ≡ one.path ++ Move.Event ∷ []
path_to one next found is path = subst (λ o. IfSome o (λ n. n.path ≡ one.path ++ Move.Event ∷ [])) is path

pub returns-in_ok-add-in-Some : goal.returns-in_ok-add-in-Some
returns-in_ok-add-in-Some c =
    inr (
      c.in-Some.next,
      sym c.in_ok-observed.ensures.config ∙ ap (option_map config_of) c.in-Some.is,
      path_to c.args.one c.in-Some.next c.in_ok-observed.field-0 c.in-Some.is c.in_ok-observed.ensures.path,
      c.in_ok-add-in-Some.ensures,
    )
