-- `into_parts` tests the pointer, and what the handle owned is the parts' where it isn't null.
use Rattle.std.proofs.{Common.{◌≡◌, List, [], ◌∷◌, ◌++◌, refl, sym, subst, lit<}, alloc.Shapes.after}
use Rattle.std.proofs.{cell.Inside.{Good, one}, option.Made.{Some-of, none_of}, ResultValues.and_tt}
use Rattle.std.proofs.{BoxSteps.{Form.{D, box_typed}, Steps.box_in}, raw_atomic.Walks.{proved_at, leaves}}
use Rattle.std.specs.{Prelude.{None, Some}, contracts.impls.GlobalAllocator.TheImpl.ghosts}
use Rattle.nigbaru_c.proofs.{Holding.{E, word, handle_out, either}, handle.Handle.into_parts.Statement.statement}
use Rattle.nigbaru_c.specs.contracts.handle.Handle.into_parts.{ended, clauses, Key.name as #self}
use mir.Val.{Val, vcons, vnil}
use base.Logic.{SProp, ent, emp, id⊢}
use prog.Wp.{WpFn}
use types.Kit.{‵, raw, ◌⊛◌, at_ret, ◌$◌, ◌∵◌, !, qed, by, move, keep, split, fsplit, fjoin, suffices, use0, use1}
use types.Kit.{rewrite}
use types.Run.{stop, fld, lit, of_opd, bin, no_more, and_then, first, branches, exec, returns, enter}
use types.ByLocal.{alloc_all, pass_all, free_all, look_at, get, get_in, sets, sets_last, env}
use types.Part.{agg, sub, whole}
use types.Match.{live}
use contract.Monad.{fact, fact_i}
use contract.Running.{tables}
use denote.Exit.{yes}
use denote.RattleType.{RattleType, owns}
use denote.Signature.{types_at, type_at, plain}
use denote.RawPtr.{Ptr, block_ptr, null_ptr, tests_null}
use denote.Steps.{nothing}
use denote.Param.{layout}
use denote.Triple.Entry.{alive}
use denote.Triple.Walked.{Stays, stay_dropped, walk_of, Goes-dropped}
use Rattle.std.proofs.BoxSteps.Form as box
use Rattle.std.specs.contracts.alloc.Global as Heap
use Rattle.std.proofs.alloc.Global.TheLaws as heap
use Rattle.nigbaru_c.specs.contracts.chair.Chair as Chair
use Rattle.nigbaru_c.specs.contracts.parts.Parts as Parts
use Rattle.nigbaru_c.specs.contracts.handle.Handle as handle
use Rattle.nigbaru_c.proofs.handle.Handle.into_parts.Code as code

pub into_parts_spec : {M : Type 1} → statement M
into_parts_spec 𝓤 𝓛 𝓜 𝓡 wired =
    let H = 𝓛.H in let 𝓣 = tables 𝓤 H 𝓜 𝓡 𝓡.env in let En = ended in let c = clauses 𝓛 𝓜.mem 𝓡.returns in let fn =
    code.function in
    let Z : RattleType = Heap.the_row in let LZ = heap.the_row_laws in let P : RattleType =
    Parts.the_row Chair.the_row Z ghosts in
    let hs : Stays En.signature.params En.kept =
    (stay_dropped (plain (λ _. handle.the_row)) yes, (stay_dropped (plain (λ _. Z)) yes, tt)) in
    proved_at 𝓛 En hs c 𝓜 𝓡 (
      Goes-dropped 𝓛 0 (plain (λ _. handle.the_row)) yes (λ κs x f. refl),
      (Goes-dropped 𝓛 0 (plain (λ _. Z)) yes (λ κs x f. refl), tt),
    ) #self fn (code.unfolded 𝓤 H 𝓜 𝓡 wired) (λ z are.
    let κs = z.0.0 in let qs = z.0.1 in let Post : Val → SProp 𝓤 = (walk_of 𝓛 En hs c).post z in let Run : List Val
    → SProp 𝓤 = λ ws. WpFn 𝓤 H 𝓣.C 𝓣.Λ fn ws Post in
    let d = z.0.3.0 in let a = z.0.3.1.0 in let Out : RattleType = type_at En.signature.result κs in
    let h = one (layout Z) z.0.4.1.0 ((LZ.lawful 𝓛).typed a z.0.4.1.0 are.1.0) in
    let RunAt : Ptr → SProp 𝓤 = λ p. Run (word p ∷ h.0 ∷ []) in
    qed 𝓛 ((raw (alive 𝓛 En.signature κs qs) ⊛ ‵ (owns (types_at En.signature.params κs) z.0.3 z.0.4)) ∷ raw
    ((c κs z.0.3).requires z.1) ∷ []) ∵ split ! $ move ! (1 ∷ []) $ fsplit ! $
    handle_out ! d z.0.4.0 (λ ws. move ! (1 ∷ []) $ fsplit ! $ rewrite ! 0
    (λ (us : List Val). ‵ (Z.own_val a us)) h.1 refl $ keep ! (2 ∷ 0 ∷ 3 ∷ []) $
    suffices ! (RunAt d.at) (subst (λ (us : List Val). ent 𝓤 (RunAt d.at) (Run us)) (sym (λ i. ws i ++ (h.1 i ++ [])))
    (id⊢ 𝓤 (RunAt d.at))) $
    either ! d.at d.held
    (λ is none. suffices ! (RunAt null_ptr) (subst (λ (p : Ptr). ent 𝓤 (RunAt null_ptr) (RunAt p)) (sym is)
    (id⊢ 𝓤 (RunAt null_ptr))) $
    enter ! 𝓣.C 𝓣.Λ fn (word null_ptr ∷ h.0 ∷ []) Post $ alloc_all !
    (λ l. pass_all ! refl ((tt, (record { fits = lit< tt }, tt)), (h.2, tt)) $ let Ev = env fn.locals l in
    sets ! (of_opd ! (get_in ! (fld ! refl (stop !)) (sub ! 0 refl (whole !)))) refl (tt, record { fits = lit< tt }) $
    sets ! (bin ! (get ! refl) (lit ! tt) tt) refl (tt, tt) $ first ! $ branches ! (get ! refl)
    (λ _. sets_last ! (agg ! (and_then ! (lit ! tt) (no_more !))) refl (tt, (record { fits = lit< tt }, tt)) $
    exec ! 𝓣.C 𝓣.Λ Ev (after 3 fn.body) (at_ret Ev Post) $ sets ! (of_opd ! (get ! refl)) refl
    (tt, (record { fits = lit< tt }, tt)) $
    use0 𝓛 (raw (fact 𝓤 (d.held ≡ None))) (fact_i 𝓤 (d.held ≡ None) (emp 𝓤) none) $ use0 𝓛
    (‵ (Out.own_val None (live 0 vnil ∷ []))) (none_of 𝓛 P) $
    nothing ! $ nothing ! $ fjoin ! $ nothing ! $ fjoin ! $ returns ! (look_at ! 0 refl) $ free_all ! refl $ keep !
    (4 ∷ 0 ∷ 1 ∷ 2 ∷ []) $
    by ! (leaves 𝓛 En hs c z (live 0 vnil) None (tt, (tt, tt)) (tt, (tt, tt)))) (λ wrong. absurd wrong)))
    (λ b o x is some t. let made : Val = box.word E h.0 b o in let typed = box_typed E h.0 b o h.2 in
    let v : Val = live 1 (vcons made vnil) in
    let e : D E = record { ptr = block_ptr b o; alloc = a; value = x } in let p : P.Denot =
    record { ptr = block_ptr b o; alloc = a; value = x } in
    let good : Good (layout Out) v = (and_tt _ typed.0, (record { fits = lit< tt }, (typed.1, tt))) in
    suffices ! (RunAt (block_ptr b o)) (subst (λ (p : Ptr). ent 𝓤 (RunAt (block_ptr b o)) (RunAt p)) (sym is)
    (id⊢ 𝓤 (RunAt (block_ptr b o)))) $
    enter ! 𝓣.C 𝓣.Λ fn (word (block_ptr b o) ∷ h.0 ∷ []) Post $ alloc_all !
    (λ l. pass_all ! refl ((tt, (tt, tt)), (h.2, tt)) $ let Ev = env fn.locals l in
    sets ! (of_opd ! (get_in ! (fld ! refl (stop !)) (sub ! 0 refl (whole !)))) refl (tt, tt) $
    sets ! (bin ! (get ! refl) (lit ! tt) (tests_null (block_ptr b o) t)) refl (tt, tt) $ first ! $ branches !
    (get ! refl) (λ wrong. absurd wrong) (λ _.
    sets ! (of_opd ! (get ! refl)) refl (tt, tt) $ sets !
    (agg ! (and_then ! (get ! refl) (and_then ! (get ! refl) (no_more !)))) refl typed $
    sets_last ! (agg ! (and_then ! (lit ! tt) (and_then ! (get ! refl) (no_more !)))) refl good $
    exec ! 𝓣.C 𝓣.Λ Ev (after 3 fn.body) (at_ret Ev Post) $ sets ! (of_opd ! (get ! refl)) refl good $
    fsplit ! $ box_in E ! e b o x refl refl $ use1 𝓛 (‵ (P.own_val p (made ∷ []))) (id⊢ 𝓤 _) $ use1 𝓛
    (‵ (Out.own_val (Some p) (v ∷ []))) (Some-of 𝓛 P p made) $
    use0 𝓛 (raw (fact 𝓤 (d.held ≡ Some x))) (fact_i 𝓤 (d.held ≡ Some x) (emp 𝓤) some) $ move ! (1 ∷ []) $
    nothing ! $ nothing ! $ fjoin ! $ nothing ! $ fjoin ! $ returns ! (look_at ! 0 refl) $ free_all ! refl $ keep !
    (3 ∷ 0 ∷ 1 ∷ 2 ∷ []) $
    by ! (leaves 𝓛 En hs c z v (Some p) (tt, (tt, tt)) (tt, (tt, tt))))))))
