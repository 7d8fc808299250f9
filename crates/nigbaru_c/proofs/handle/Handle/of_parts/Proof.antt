-- `of_parts` moves the pointer, and what the parts own goes with it.
use Rattle.std.proofs.{Common.{◌≡◌, List, [], ◌∷◌, ◌++◌, refl, sym, subst}, BoxSteps.Form.{D, B, box_typed}}
use Rattle.std.{proofs.{BoxSteps.Steps.box_out, raw_atomic.Walks.{proved_at, leaves}}, specs.Prelude.{Option, Some}}
use Rattle.std.specs.contracts.impls.GlobalAllocator.TheImpl.{ghosts}
use Rattle.nigbaru_c.specs.{Held.boxed, contracts.handle.Handle.of_parts.{ended, clauses, Key.name as #self}}
use Rattle.nigbaru_c.proofs.{Holding.{E, word, handle_in}, handle.Handle.of_parts.Statement.statement}
use mir.Val.{Val}
use base.Logic.{SProp, ent, emp, id⊢}
use base.Fml.{ftrue, fsep}
use prog.Wp.{WpFn}
use types.Kit.{‵, raw, ◌⊛◌, ◌$◌, ◌∵◌, !, qed, by, move, keep, use0, use1, split, fsplit, fjoin, suffices}
use types.Part.{whole, sub, agg}
use types.Run.{stop, fld, no_more, and_then, of_opd, returns, enter}
use types.ByLocal.{alloc_all, pass_all, free_all, look_at, get, get_in, sets}
use contract.Monad.{fact, fact_i}
use contract.Running.{tables}
use denote.Exit.{yes}
use denote.RawPtr.{block_ptr}
use denote.Signature.{plain}
use denote.Steps.{nothing}
use denote.Triple.Entry.{alive}
use denote.Triple.Walked.{Stays, stay_dropped, walk_of, Goes-dropped}
use Rattle.std.proofs.BoxSteps.Form as box
use Rattle.std.specs.contracts.alloc.Global as Heap
use Rattle.nigbaru_c.specs.contracts.chair.Chair as Chair
use Rattle.nigbaru_c.specs.contracts.parts.Parts as Parts
use Rattle.nigbaru_c.proofs.handle.Handle.of_parts.Code as code

pub of_parts_spec : {M : Type 1} → statement M
of_parts_spec 𝓤 𝓛 𝓜 𝓡 wired =
    let H = 𝓛.H in let 𝓣 = tables 𝓤 H 𝓜 𝓡 𝓡.env in let En = ended in let c = clauses 𝓛 𝓜.mem 𝓡.returns in let fn =
    code.function in
    let From = plain (λ _. Parts.the_row Chair.the_row Heap.the_row ghosts) in
    let hs : Stays En.signature.params En.kept = (stay_dropped From yes, tt) in
    proved_at 𝓛 En hs c 𝓜 𝓡 (Goes-dropped 𝓛 0 From yes (λ κs x f. refl), tt) #self fn (code.unfolded 𝓤 H 𝓜 𝓡 wired)
    (λ z are.
    let κs = z.0.0 in let qs = z.0.1 in let Post : Val → SProp 𝓤 = (walk_of 𝓛 En hs c).post z in let Run : List Val
    → SProp 𝓤 = λ ws. WpFn 𝓤 H 𝓣.C 𝓣.Λ fn ws Post in
    let v : D E = record { ptr = z.0.3.0.ptr; alloc = z.0.3.0.alloc; value = z.0.3.0.value } in
    let held : Option Chair.the_row.Denot = Some v.value in
    qed 𝓛 ((raw (alive 𝓛 En.signature κs qs) ⊛ ‵ (fsep ((B E).own_val v z.0.4.0) ftrue)) ∷ raw
    ((c κs z.0.3).requires z.1) ∷ []) ∵ split ! $ move ! (1 ∷ []) $ fsplit ! $
    box_out E ! v z.0.4.0 (λ b o hv e ws fa. fjoin ! $ use1 𝓛 (‵ (boxed (block_ptr b o) v.value)) (id⊢ 𝓤 _) $ keep !
    (0 ∷ 3 ∷ []) $
    let w : Val = box.word E hv b o in
    suffices ! (Run (w ∷ [])) (subst (λ (us : List Val). ent 𝓤 (Run (w ∷ [])) (Run us)) (sym (λ i. ws i ++ []))
    (id⊢ 𝓤 (Run (w ∷ [])))) $
    enter ! 𝓣.C 𝓣.Λ fn (w ∷ []) Post $ alloc_all ! (λ l. pass_all ! refl (box_typed E hv b o fa, tt) $
    sets ! (of_opd ! (get_in ! (fld ! refl (stop !)) (sub ! 0 refl (whole !)))) refl (tt, tt) $
    sets ! (of_opd ! (get ! refl)) refl (tt, tt) $
    sets ! (agg ! (and_then ! (get ! refl) (no_more !))) refl (tt, (tt, tt)) $
    handle_in ! (block_ptr b o) held $
    use0 𝓛 (raw (fact 𝓤 (held ≡ Some v.value))) (fact_i 𝓤 (held ≡ Some v.value)
    (emp 𝓤) refl) $ nothing ! $ nothing ! $ fjoin ! $
    returns ! (look_at ! 0 refl) $ free_all ! refl $ keep ! (3 ∷ 0 ∷ 2 ∷ 1 ∷ []) $ by !
    (leaves 𝓛 En hs c z (word (block_ptr b o)) (record { at = block_ptr b o; held = held }) (tt, tt) (tt, tt)))))
