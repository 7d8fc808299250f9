-- A coordinator's calls, one after another.
use Rattle.std.proofs.Common.{ℕ, List, [], ◌∷◌, ◌++◌, map, refl, ap, sym, ◌∙◌, append-nil, append_assoc}
use Rattle.std.proofs.lemmas.List.{map-append}
use Rattle.decision_log.proofs.Histories.{begins_itself, begins_through}
use Rattle.xa_session.specs.{Answer.entry_of, View.SessionView}
use Rattle.xa_coordinator.specs.declared.decisions.Decision.{Decision}
use Rattle.xa_endless.specs.Course.{Course, stays, calls, joined, AgreesThroughout}

-- if each of a coordinator's calls adds only what agrees with its decisions of that time, all of them together do, as
-- `AgreesThroughout` says
pub throughout : (name : List ℕ) (store : ℕ) (decisions : List (List Decision)) (old new : SessionView)
    → Course name store decisions old new
    → AgreesThroughout name store decisions old new
throughout name store _ _ _ (stays old) = record {
  identity = refl;
  base = refl;
  number = refl;
  seen = begins_itself old.known.seen;
  statements = [];
  mine = sym (append-nil old.known.mine);
  each = tt;
}
throughout name store _ _ _ (calls stood later old mid new agrees course) =
    let rest = throughout name store later mid new course in
    let adds = agrees.adds in
    let number = adds.advances.number in
    record {
      identity = rest.identity ∙ adds.log.identity;
      base = rest.base ∙ adds.log.base;
      number = rest.number ∙ number;
      seen = begins_through old.known.seen mid.known.seen new.known.seen adds.advances.seen rest.seen;
      statements = agrees.statements ∷ rest.statements;
      mine =
          rest.mine ∙ ap (λ n. mid.known.mine ++ map (entry_of n) (joined rest.statements)) number
          ∙ ap (λ list. list ++ map (entry_of old.known.number) (joined rest.statements)) adds.mine
          ∙ append_assoc old.known.mine (map (entry_of old.known.number) agrees.statements)
          (map (entry_of old.known.number) (joined rest.statements))
          ∙ ap (λ list. old.known.mine ++ list) (sym (map-append (entry_of old.known.number) agrees.statements
          (joined rest.statements)));
      each = (agrees.each, rest.each);
    }
