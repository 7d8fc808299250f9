use Rattle.std.proofs.Common.{◌≡◌, ◌∙◌, [], ◌∷◌, ◌++◌, length, map, refl, ap, sym, Option, Some, None, arith}
use Rattle.std.{proofs.lemmas.{List.{map-append, nil_from_length}, Result.IfOk-weaker}, specs.Prelude.MatchOption}
use Rattle.xa_store.proofs.Spreading.{when_ok}
use Rattle.xa_store.proofs.closing.+part.Goals as goal

pub returns-clause-sessions : goal.returns-clause-sessions
returns-clause-sessions g t c =
    IfOk-weaker c.and_both.result _ _
    (λ both is. is.2 ∙ ap (λ list. list ++ c.in-Some.last.session ∷ [])
    (when_ok c.part-others.result _ is.0 c.part-others.ensures.sessions is.1)
    ∙ sym (map-append (λ one. one.session) c.pop.new.self.items (c.in-Some.last ∷ []))
    ∙ ap (map (λ one. one.session)) (sym c.in-Some.ensures.items))
    c.and_both.ensures

pub returns-clause-done : goal.returns-clause-done
returns-clause-done g t c =
    IfOk-weaker c.and_both.result _ _
    (λ both is. is.3 ∙ ap (λ list. list ++ c.in-Some.last.done ∷ [])
    (when_ok c.part-others.result _ is.0 c.part-others.ensures.done is.1)
    ∙ sym (map-append (λ one. one.done) c.pop.new.self.items (c.in-Some.last ∷ []))
    ∙ ap (map (λ one. one.done)) (sym c.in-Some.ensures.items))
    c.and_both.ensures

none_popped : {S : Type 0} (popped : Option S) (A : Type 0) (B : S → Type 0) → ((x : S) → popped ≡ Some x → ⊥)
    → MatchOption popped A B → A
none_popped None A B none is = is
none_popped (Some x) A B none is = absurd (none x refl)

pub returns-in_default-clause-sessions : goal.returns-in_default-clause-sessions
returns-in_default-clause-sessions g t c =
    let empty : length c.args.returned.items ≡ 0 =
    omega (arith, (none_popped c.pop.result _ _ c.in_default.not-Some c.pop.ensures.cases).0, c.args.returned.ok.0) in
    c.new.ensures.items ∙ ap (map (λ one. one.session)) (sym (nil_from_length c.args.returned.items empty))

pub returns-in_default-clause-done : goal.returns-in_default-clause-done
returns-in_default-clause-done g t c =
    let empty : length c.args.returned.items ≡ 0 =
    omega (arith, (none_popped c.pop.result _ _ c.in_default.not-Some c.pop.ensures.cases).0, c.args.returned.ok.0) in
    c.new-in_default.ensures.items ∙ ap (map (λ one. one.done)) (sym (nil_from_length c.args.returned.items empty))
