-- What a session has open stays while only others add, and what its own statements make of it.
use Rattle.std.proofs.Common.{◌≡◌, ℕ, Bool, true, false, List, [], ◌∷◌, ◌++◌, length, take, drop, refl, ap, sym, ◌∙◌}
use Rattle.std.{proofs.{Common.{subst, cond, arith, append-nil}, lemmas.Bool.eqb-false}, specs.Prelude.nat_eq}
use Rattle.std.proofs.lemmas.List.{append_cancel_left, append_cancel_right, take_all, length-take}
use Rattle.xa_words.specs.Entry.{Entry}
use Rattle.xa_xid.specs.declared.statement.Statement.{Statement}
use Rattle.xa_server.specs.{State.{State, association_of}, Locks.LockLaw, Step.{after, enters}}
use Rattle.xa_server.proofs.{Others.others_left, Keeping.law_after}
use Rattle.decision_log.specs.{History.{Begins, entries_of}, declared.known.Known.Known}
use Rattle.decision_log.proofs.Histories.{behind, own_append, own_last, begins_between, begins_append}
use Rattle.xa_session.specs.{Answer.{entry_of, IsAnswered, IsUnanswered}, Replay.{state_after, state_at}}
use Rattle.xa_session.{specs.declared.answer.Answer.Answer, proofs.Replaying.{state_after-last, state_at-whole}}

-- if an entry and the rest, filtered, leave nothing, the entry didn't pass and the rest is empty
left_out : (is : Bool) (entry : Entry) (rest : List Entry) → cond is (entry ∷ rest) rest ≡ []
    → (is ≡ false) × (rest ≡ [])
left_out true entry rest none = absurd (cc)
left_out false entry rest none = (refl, none)

-- in a state that keeps the lock law, entries of which none is the session's leave what it has open
others_only : (number : ℕ) (rest : List Entry) (state : State) → LockLaw state → entries_of number rest ≡ []
    → association_of (state_after state rest) number ≡ association_of state number
unfolding state_after
others_only number [] state law none = refl
others_only number (entry ∷ rest) state law none =
    let out = left_out (nat_eq entry.session number) entry (entries_of number rest) none in
    let next : State = after state entry.session entry.statement in
    others_only number rest next (law_after state entry.session entry.statement law) out.1
    ∙ (others_left state law entry.session number entry.statement (eqb-false entry.session number out.0)).association

-- the state after two parts of a history is the state after the second, from that after the first
state_after-append : (base : State) (xs ys : List Entry)
    → state_after base (xs ++ ys) ≡ state_after (state_after base xs) ys
unfolding state_after
state_after-append base [] ys = refl
state_after-append base (x ∷ xs) ys = state_after-append (after base x.session x.statement) xs ys

-- the lock law holds after each history, if it holds of the base
pub law_seen : (base : State) (seen : List Entry) → LockLaw base → LockLaw (state_after base seen)
unfolding state_after
law_seen base [] law = law
law_seen base (x ∷ xs) law = law_seen (after base x.session x.statement) xs (law_after base x.session x.statement law)

-- a longer history, in which the session has no more entries, leaves what the session has open
pub association_kept : (base : State) → LockLaw base → (number : ℕ) (old new : List Entry) → Begins old new
    → entries_of number new ≡ entries_of number old
    → association_of (state_after base new) number ≡ association_of (state_after base old) number
association_kept base law number old new begins own =
    let rest : List Entry = drop (length old) new in
    let whole : old ++ rest ≡ new = behind old new begins in
    let none : entries_of number rest ≡ [] =
    append_cancel_left (entries_of number old) (entries_of number rest) []
    (sym (own_append number old rest) ∙ ap (entries_of number) whole ∙ own
    ∙ sym (append-nil (entries_of number old))) in
    ap (λ history. association_of (state_after base history) number) (sym whole)
    ∙ ap (λ state. association_of state number) (state_after-append base old rest)
    ∙ others_only number rest (state_after base old) (law_seen base old law) none

-- what a session has open stays while it has no statement answered, whatever others add
pub association_unanswered : (base : State) → LockLaw base → (old new : Known) → IsUnanswered old new
    → entries_of old.number old.seen ≡ old.mine
    → entries_of new.number new.seen ≡ new.mine →
    association_of (state_after base new.seen) new.number ≡ association_of (state_after base old.seen) old.number
association_unanswered base law old new is own_old own_new =
    ap (association_of (state_after base new.seen)) is.advances.number
    ∙ association_kept base law old.number old.seen new.seen is.advances.seen
    (ap (λ n. entries_of n new.seen) (sym is.advances.number) ∙ own_new ∙ is.mine ∙ sym own_old)

-- the list `front` begins with all that had been seen, and has no more entries of the session
record IsBefore (old : Known) (front : List Entry) : Type 0 where
  begins : Begins old.seen front
  own : entries_of old.number front ≡ entries_of old.number old.seen

-- the entries before an answer's place begin with all that had been seen, and have no more entries of the session, if
-- `mine` is the session's entries both before and after the call
before : (base : State) (statement : Statement) (answer : Answer) (old new : Known)
    → IsAnswered base statement answer old new →
    entries_of old.number old.seen ≡ old.mine → entries_of new.number new.seen ≡ new.mine
    → IsBefore old (take answer.place new.seen)
before base statement answer old new is own_old own_new =
    by (enters (state_at base new.seen answer.place) old.number statement) refl
  where
    all_own : entries_of old.number new.seen ≡ new.mine
    all_own = ap (λ n. entries_of n new.seen) (sym is.advances.number) ∙ own_new

    by : (b : Bool) → enters (state_at base new.seen answer.place) old.number statement ≡ b
        → IsBefore old (take answer.place new.seen)
    by true entering =
        let added = is.entered entering in
        let front : List Entry = take answer.place new.seen in
        let entry : Entry = entry_of old.number statement in
        let begins : Begins front new.seen = subst (λ list. Begins front list) (sym added.seen)
        (begins_append front (entry ∷ [])) in
        record {
          begins =
              begins_between old.seen front new.seen is.advances.seen begins
              (omega (arith, is.not_before, is.at.within, length-take answer.place new.seen));
          own = append_cancel_right (entries_of old.number front) (entries_of old.number old.seen) (entry ∷ [])
              (sym (own_last old.number front entry refl) ∙ ap (entries_of old.number) (sym added.seen) ∙ all_own
              ∙ added.mine
              ∙ ap (λ list. list ++ entry ∷ []) (sym own_old));
        }
    by false outside =
        let stays = is.outside outside in
        let whole : take answer.place new.seen ≡ new.seen =
        take_all answer.place new.seen (omega (arith, stays.whole)) in
        record {
          begins = subst (λ list. Begins old.seen list) (sym whole) is.advances.seen;
          own = ap (entries_of old.number) whole ∙ all_own ∙ stays.mine ∙ sym own_old;
        }

-- at an answer's place the session has open what it had open after all that it had seen before the call
pub association_at : (base : State) → LockLaw base → (statement : Statement) (answer : Answer) (old new : Known)
    → IsAnswered base statement answer old new →
    entries_of old.number old.seen ≡ old.mine → entries_of new.number new.seen ≡ new.mine →
    association_of (state_at base new.seen answer.place) old.number
    ≡ association_of (state_after base old.seen) old.number
association_at base law statement answer old new is own_old own_new =
    let front = before base statement answer old new is own_old own_new in
    association_kept base law old.number old.seen (take answer.place new.seen) front.begins front.own

-- after an answered statement that entered, its entry is the last one seen: the state is the one after it
pub state_entered : (base : State) (statement : Statement) (answer : Answer) (old new : Known)
    → IsAnswered base statement answer old new
    → enters (state_at base new.seen answer.place) old.number statement ≡ true →
    state_after base new.seen ≡ after (state_at base new.seen answer.place) old.number statement
state_entered base statement answer old new is entering =
    ap (state_after base) (is.entered entering).seen ∙ state_after-last base (take answer.place new.seen)
    (entry_of old.number statement)

-- a statement that doesn't enter is answered in the state after all that is seen
pub state_outside : (base : State) (statement : Statement) (answer : Answer) (old new : Known)
    → IsAnswered base statement answer old new
    → enters (state_at base new.seen answer.place) old.number statement ≡ false →
    state_after base new.seen ≡ state_at base new.seen answer.place
state_outside base statement answer old new is outside =
    sym (state_at-whole base new.seen) ∙ ap (state_at base new.seen) (is.outside outside).whole
