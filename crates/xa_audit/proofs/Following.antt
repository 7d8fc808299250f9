-- A history, line by line: the lives that are kept, and the lives after it.
use Rattle.std.proofs.Common.{◌≡◌, ℕ, List, [], ◌∷◌, ◌++◌, refl, ap, sym, ◌∙◌, subst, Bool, true, false, inl, inr}
use Rattle.std.specs.{Prelude.{Option, Some, None, cond, option_to_list}, Option.unwrap_or, BTreeMap.{BTreeMap, get}}
use Rattle.std.specs.{Ordering.is_eq, Cmp.eq_by_cmp_equiv}
use Rattle.xa_xid.specs.{declared.{xid.Xid.Xid, statement.Statement.Statement}, Xid.{xid_cmp, same_xid}}
use Rattle.xa_xid.proofs.Orders.{xids_total, exact_xids}
use Rattle.xa_server.specs.{State.{State, own_xid}, Replies.reply_to, Step.{after, is_refused}}
use Rattle.xa_server.proofs.Maps.{same_or_apart, same_itself}
use Rattle.xa_audit.specs.declared.{deed.Deed.Deed, lives.Lives.Lives, said.Said.Said}
use Rattle.xa_audit.specs.{Histories.{statement_said, statements_in, said_on}, Following.{state_said, deed_said, Notes}}
use Rattle.xa_audit.specs.{Deeds.{deed_by, deed_of, deeds_from, deeds_about}, Lives.{no_lives, noted, lives_after}}

-- the lives after a deed was noted, and then after these deeds, are those after all of them
told_more : (told : Xid × Deed) (deeds : List (Xid × Deed)) (m n : BTreeMap Xid Lives) → Notes (Some told) m n
    → (xid : Xid)
    → lives_after (get xid_cmp n xid) (deeds_about xid deeds)
    ≡ lives_after (get xid_cmp m xid) (deeds_about xid (told ∷ deeds))
unfolding lives_after deeds_about
told_more told deeds m n notes xid = elim (same_or_apart xids_total exact_xids xid told.0) [
  | inl is ↦
      ap (λ found. lives_after found (deeds_about xid deeds))
      (notes xid ∙ ap (λ b. cond b now (get xid_cmp m xid)) (turned ∙ ap (λ x. same_xid x told.0) is ∙ itself))
      ∙ ap (λ x. lives_after (Some (noted (unwrap_or (get xid_cmp m x) no_lives) told.1)) (deeds_about xid deeds))
      (sym is)
      ∙ ap (λ b. lives_after (get xid_cmp m xid) (cond b (told.1 ∷ deeds_about xid deeds) (deeds_about xid deeds)))
      (sym (ap (λ x. same_xid x told.0) is ∙ itself))
  | inr apart ↦
      ap (λ found. lives_after found (deeds_about xid deeds))
      (notes xid ∙ ap (λ b. cond b now (get xid_cmp m xid)) (turned ∙ apart))
      ∙ ap (λ b. lives_after (get xid_cmp m xid) (cond b (told.1 ∷ deeds_about xid deeds) (deeds_about xid deeds)))
      (sym apart)
]
  where
    now : Option Lives
    now = Some (noted (unwrap_or (get xid_cmp m told.0) no_lives) told.1)

    turned : is_eq (xid_cmp told.0 xid) ≡ same_xid xid told.0
    turned = (eq_by_cmp_equiv xids_total).symm told.0 xid

    itself : same_xid told.0 told.0 ≡ true
    itself = same_itself xids_total exact_xids told.0

-- noting the deed of a statement, if it has one, and then these deeds, gives the lives after that deed and these
deed_more : (deed : Option (Xid × Deed)) (deeds : List (Xid × Deed)) (m n : BTreeMap Xid Lives) → Notes deed m n
    → (xid : Xid)
    → lives_after (get xid_cmp n xid) (deeds_about xid deeds)
    ≡ lives_after (get xid_cmp m xid) (deeds_about xid (option_to_list deed ++ deeds))
deed_more None deeds m n same xid = ap (λ map. lives_after (get xid_cmp map xid) (deeds_about xid deeds)) same
deed_more (Some told) deeds m n notes xid = told_more told deeds m n notes xid

-- the lives after the deed of what a line says was noted, and then after the deeds of the statements behind it, are
-- those after the deeds of all of them
pub said_more : (said : Said) (state : State) (m n : BTreeMap Xid Lives) (rest : List (ℕ × Statement))
    → Notes (deed_said state said) m n → (xid : Xid)
    → lives_after (get xid_cmp n xid) (deeds_about xid (deeds_from (state_said state said) rest))
    ≡ lives_after (get xid_cmp m xid) (deeds_about xid (deeds_from state (statement_said said ++ rest)))
unfolding deeds_from
said_more Said.Nothing state m n rest same xid =
    ap (λ map. lives_after (get xid_cmp map xid) (deeds_about xid (deeds_from state rest))) same
said_more (Said.Given session statement) state m n rest notes xid =
    deed_more (deed_of state session statement) (deeds_from (after state session statement) rest) m n notes xid
said_more (Said.Unread place) state m n rest same xid =
    ap (λ map. lives_after (get xid_cmp map xid) (deeds_about xid (deeds_from state rest))) same

-- the loop over lines: once one more is carried out and its deed noted, the lives so far and the deeds of the lines
-- that are left still come to the lives of the whole history
pub line_more : (line : List ℕ) (lines left : List (List ℕ)) (state new : State) (m n : BTreeMap Xid Lives)
    (whole : Option Lives) (xid : Xid)
    → left ≡ line ∷ lines → new ≡ state_said state (said_on line) → Notes (deed_said state (said_on line)) m n
    → lives_after (get xid_cmp m xid) (deeds_about xid (deeds_from state (statements_in left))) ≡ whole
    → lives_after (get xid_cmp n xid) (deeds_about xid (deeds_from new (statements_in lines))) ≡ whole
unfolding statements_in
line_more line lines left state new m n whole xid cut now notes before =
    ap (λ s. lives_after (get xid_cmp n xid) (deeds_about xid (deeds_from s (statements_in lines)))) now
    ∙ said_more (said_on line) state m n (statements_in lines) notes xid
    ∙ ap (λ l. lives_after (get xid_cmp m xid) (deeds_about xid (deeds_from state (statements_in l)))) (sym cut)
    ∙ before

-- the loop over lines ends: no line is left, and the lives are those of all deeds
pub lines_end : (left : List (List ℕ)) (state : State) (found whole : Option Lives) (xid : Xid) → left ≡ []
    → lives_after found (deeds_about xid (deeds_from state (statements_in left))) ≡ whole → found ≡ whole
unfolding lives_after deeds_about deeds_from statements_in
lines_end left state found whole xid is before = cc

-- a refused statement has no deed, so noting it leaves the kept lives as they are
pub refused_notes : (state : State) (session : ℕ) (statement : Statement) (lives : BTreeMap Xid Lives)
    → is_refused (reply_to state session statement) ≡ true
    → Notes (deed_of state session statement) lives lives
unfolding deed_of
refused_notes state session statement lives refused =
    subst (λ (b : Bool). Notes (cond b None (deed_by (own_xid state session) statement)) lives lives) (sym refused) refl

-- if an accepted statement's deed was noted as `deed_by` gives it from the branch that its session owns, it was noted
-- as `deed_of` gives it in this state
pub accepted_notes : (state : State) (session : ℕ) (statement : Statement) (own : Option Xid)
    (old new : BTreeMap Xid Lives)
    → is_refused (reply_to state session statement) ≡ false → own ≡ own_xid state session
    → Notes (deed_by own statement) old new
    → Notes (deed_of state session statement) old new
unfolding deed_of
accepted_notes state session statement own old new accepted is notes =
    subst (λ (b : Bool). Notes (cond b None (deed_by (own_xid state session) statement)) old new) (sym accepted)
    (subst (λ (o : Option Xid). Notes (deed_by o statement) old new) is notes)
