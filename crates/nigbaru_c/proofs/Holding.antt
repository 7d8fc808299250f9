-- The machine value of a handle. Assumes `Logic`.
--     tested          a box's pointer may be tested
--     handle_in       a handle is made of what it owns
--     handle_out      what it owns is taken out of it
--     either          it owns nothing at null, or a box elsewhere
--     lies, keyless   what it owns may cross threads
use Rattle.std.proofs.{Common.{◌≡◌, ℕ, List, [], ◌∷◌, ◌++◌, refl, subst}, GlobalToken.dealloc_token-Testable}
use Rattle.std.{proofs.{Crossing.frees, BoxSteps.Form.Bx}, specs.Prelude.{Option, Some, None}}
use Rattle.std.specs.contracts.impls.GlobalAllocator.TheImpl.{ghosts, dict}
use Rattle.nigbaru_c.{specs.Held.{holds, boxed, heap as the_heap}, proofs.chair.Chair.TheSendSync.the_send as sent}
use seplogic.Ra.Ura.{Ura}
use mir.Syntax.{impl, tnil, dnil}
use mir.Raw.{raw as bare}
use mir.Val.{Val, vstruct, vcons, vnil, of_list}
use base.Logic.{ent, via, snd∗, fst∗, never, guard, guard_i}
use base.Shift.{Keyless}
use contract.Monad.{fact_use}
use types.Logic.{Logic, sem}
use types.Kit.{Item, Goal, Seq, Step, step, ‵, given, ◌$◌, drop, fsplit, fjoin, fpick, fpack, feq_i, feq_l, use1, learn}
use denote.RattleType.{RattleType, Valss}
use denote.Exit.{Exit, unchanged, leaves, hidden, under}
use denote.Param.Send.{IsSend, Quiet, part_keyless}
use denote.Builtin.{RawPtr}
use denote.Memory.{lone}
use base.Fraction.{full_share}
use denote.RawPtr.{Ptr, ptr_val, block_ptr, null_ptr, in_a_block, lies_at, Testable}
use denote.Steps.{nothing}
use denote.Struct.Struct.{within}
use denote.Struct.Owning.{shape}
use Rattle.std.specs.contracts.alloc.Global as Heap
use Rattle.std.proofs.alloc.Global.TheLaws as heap
use Rattle.nigbaru_c.specs.contracts.chair.Chair as Chair
use Rattle.nigbaru_c.proofs.chair.Chair.TheLaws as chair
use Rattle.nigbaru_c.specs.contracts.handle.Handle as handle

-- the machine value of a handle: a structure with one pointer
abbrev pub word : Ptr → Val
word p = vstruct (vcons (ptr_val p) vnil)

module _ {M : Type 1} {𝓤 : Ura M} (𝓛 : Logic 𝓤) where
  -- what a box of a chair owns shows that its pointer may be tested
  tested : (p : Ptr) (x : Chair.the_row.Denot) → ent 𝓤 (sem 𝓛 (boxed p x)) (guard 𝓤 (Testable p) (sem 𝓛 (boxed p x)))
  tested p x = fact_use 𝓤 (Testable p) (via 𝓤 _ (snd∗ 𝓤 (sem 𝓛 (lies_at Chair.the_row full_share p x))
      (sem 𝓛 (ghosts.dealloc_token the_heap (bare (lone Chair.the_row.mir)) p)))
      (dealloc_token-Testable 𝓛 the_heap (bare (lone Chair.the_row.mir)) p))
      (guard_i 𝓤 (Testable p) (sem 𝓛 (boxed p x)))

module _ {M : Type 1} {𝓤 : Ura M} {𝓛 : Logic 𝓤} {K : Type 0} {Γ : List (Item 𝓤)} {G : Goal 𝓤 𝓛.H} where
  -- the machine value of a handle at p with h is made of what it owns (`holds`)
  pub handle_in : K → (p : Ptr) (h : Option Chair.the_row.Denot)
      → Step K 𝓛 (‵ (handle.the_row.own_val (record { at = p; held = h }) (word p ∷ [])) ∷ Γ) G (‵ (holds p h) ∷ Γ) G
  handle_in t p h = step (λ s. nothing t $ feq_i t (List Val) (ptr_val p ∷ []) (ptr_val p ∷ []) refl $ fjoin t $ feq_i t
      (List Val) (word p ∷ []) (word p ∷ []) refl $ fjoin t $
      fpack t (Valss (RawPtr ∷ [])) (within (shape handle.the_type) (p, tt) (word p ∷ []))
      (ptr_val p ∷ [], tt) $ fjoin t $ s)

  -- from the machine value of a handle what it owns (`holds`) is taken, and the value is the one word with its pointer
  pub handle_out : K → (d : handle.the_row.Denot) (vs : List Val)
      → (vs ≡ word d.at ∷ [] → Seq K 𝓛 (‵ (holds d.at d.held) ∷ Γ) G) → Seq K 𝓛 (‵ (handle.the_row.own_val d vs) ∷ Γ) G
  handle_out t d vs k = fsplit t $ fpick t (λ vss. fsplit t $ feq_l t (λ ev. fsplit t $ feq_l t (λ ep. drop t $
      k (subst (λ (ps : List Val). vs ≡ vstruct (of_list (ps ++ [])) ∷ []) ep ev))))

  -- by cases: p is null and nothing is held, or it is a pointer that may be tested, to a box with the chair that is
  -- held
  pub either : K → (p : Ptr) (h : Option Chair.the_row.Denot) → (p ≡ null_ptr → h ≡ None → Seq K 𝓛 Γ G)
      → ((b o : ℕ) (x : Chair.the_row.Denot) → p ≡ block_ptr b o → h ≡ Some x → Testable (block_ptr b o)
      → Seq K 𝓛 (‵ (boxed (block_ptr b o) x) ∷ Γ) G)
      → Seq K 𝓛 (‵ (holds p h) ∷ Γ) G
  either t p None none one = fpick t (λ e. drop t $ none e refl)
  either t p (Some x) none one = in_a_block t p (λ p. boxed p x)
      (fst∗ 𝓤 (never 𝓤) (sem 𝓛 (ghosts.dealloc_token the_heap (bare (lone Chair.the_row.mir)) null_ptr))) (λ b o e.
      use1 𝓛 (given (Testable (block_ptr b o)) (‵ (boxed (block_ptr b o) x))) (tested 𝓛 (block_ptr b o) x) $ learn t
      (λ k. one b o x e refl k))

-- a value that may be sent to another thread lies behind a pointer without a key of this thread
lies : (R : RattleType) → IsSend R → (p : Ptr) (x : R.Denot) → Keyless (lies_at R full_share p x)
lies R s (block_ptr b o) x = part_keyless R s full_share x b o
lies R s null_ptr x = tt

-- an exit that does nothing further still doesn't when its value is hidden
pub quiet : {D X : Type 0} (to : D → X) (e : Exit X) → Quiet e → Quiet (hidden (under to e))
quiet to unchanged q = λ x w. tt
quiet to (leaves L l S s r₀) q = λ d. q (to d)

-- so a handle holds nothing of the thread that made it, with a session or without one
pub keyless : (p : Ptr) (h : Option Chair.the_row.Denot) → Keyless (holds p h)
keyless p None = λ _. tt
keyless p (Some x) = (lies Chair.the_row sent p x, frees.frees the_heap (bare (lone Chair.the_row.mir)) p)

-- a box of a chair in memory of the global allocator, as the steps on boxes take it
abbrev pub E : Bx
E = record {
  row = Chair.the_row;
  laws = chair.the_row_laws;
  al = record
      { row = Heap.the_row; laws = heap.the_row_laws; g = ghosts; d = dict; drops = impl [] tnil dnil };
}
