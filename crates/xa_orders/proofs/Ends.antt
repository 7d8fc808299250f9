-- Answers and states of lines, one line more; and outcomes of ways, each once.
use Rattle.std.proofs.Common.{◌≡◌, ◌≢◌, ℕ, ◌+◌, ◌<◌, ◌≤◌, List, [], ◌∷◌, ◌++◌, length, take, drop, get_or, sym, ap, ◌∙◌}
use Rattle.std.proofs.{Common.{subst, inl, inr, append_assoc, arith}, lemmas.List.{take_more, drop_more, drop_all}}
use Rattle.std.{proofs.lemmas.List.Elements.{All-push, All-weaker}, specs.List.{All, concat}}
use Rattle.xa_server.specs.State.{State, no_state}
use Rattle.xa_lines.specs.Transcript.{answer_to, state_then}
use Rattle.xa_statement.specs.Reading.{read_of}
use Rattle.xa_orders.specs.{declared.{way.Way.Way, outcome.Outcome.Outcome}, Orders.{Told, Parts, Config, told_text}}
use Rattle.xa_orders.specs.Orders.{told_state, base_of, Gives, Precedes, AtMost, Any, IsAscending, IsExplored}
use Rattle.xa_orders.specs.Found.{config_of, order_of, IsReached, IsLevel, AllPrecede}
use Rattle.xa_orders.{specs.Ends.{text_from, IsOutcomeAdded, AreOutcomes}, proofs.Lists.{any_left, any_push}}
use Rattle.xa_orders.proofs.Lists.{any_weaker, any_with, any_both, pairwise_push, pairwise_front, at_most_trans}

-- what is written for the lines from a place on is the answer to the one there, and then what is written for the
-- others
pub told_text-more : (state : State) (lines : List Told) (index : ℕ) (line : Told) → index < length lines
    → line ≡ get_or lines index line
    → told_text state (drop index lines)
    ≡ answer_to state line.session (read_of line.text) ++ told_text (state_then state line.session (read_of line.text))
    (drop (index + 1) lines)
unfolding told_text
told_text-more state lines index line below at = grind (arith, drop_more)

-- the state after the lines from a place on: the one there is carried out, and then the others
pub told_state-more : (state : State) (lines : List Told) (index : ℕ) (line : Told) → index < length lines
    → line ≡ get_or lines index line
    → told_state state (drop index lines) ≡ told_state (state_then state line.session (read_of line.text))
    (drop (index + 1) lines)
unfolding told_state
told_state-more state lines index line below at = grind (arith, drop_more)

-- past the last line nothing is written
pub told_text-end : (state : State) (lines : List Told) (index : ℕ) → length lines ≤ index
    → told_text state (drop index lines) ≡ []
unfolding told_text
told_text-end state lines index past = ap (told_text state) (drop_all index lines past)

-- past the last line the state stays
pub told_state-end : (state : State) (lines : List Told) (index : ℕ) → length lines ≤ index
    → told_state state (drop index lines) ≡ state
unfolding told_state
told_state-end state lines index past = ap (told_state state) (drop_all index lines past)

-- the loop over lines: one more is carried out, and its answer appended; what is written in all stays the same
pub told_step : (state new : State) (lines : List Told) (index : ℕ) (line : Told) (session : ℕ)
    (said whole out answer more : List ℕ) → index < length lines
    → line ≡ get_or lines index line
    → session ≡ line.session → said ≡ line.text → answer ≡ answer_to state session (read_of said)
    → new ≡ state_then state session (read_of said)
    → more ≡ out ++ answer
    → whole ≡ out ++ told_text state (drop index lines)
    → whole ≡ more ++ told_text new (drop (index + 1) lines)
told_step state new lines index line session said whole out answer more below at by text is now appended before =
    grind (arith, append_assoc, told_text-more)

-- the loop over lines: one more is carried out; the state after all of them stays the same
pub told_state_step : (first state new : State) (lines : List Told) (index : ℕ) (line : Told) (session : ℕ)
    (said : List ℕ) (last : State)
    → index < length lines
    → line ≡ get_or lines index line
    → session ≡ line.session → said ≡ line.text → new ≡ state_then state session (read_of said)
    → last ≡ told_state state (drop index lines)
    → last ≡ told_state new (drop (index + 1) lines)
told_state_step first state new lines index line session said last below at by text now before =
    grind (arith, told_state-more)

-- the outcome is that of one of these ways: its order and its text
abbrev pub IsOf : (Way → List ℕ) → List Way → Outcome → Type 0
IsOf text_of ways one = Any (λ way. (one.order.items ≡ way.order.items) × (one.text.items ≡ text_of way)) ways

-- among the outcomes is one with the way's text, by an order that isn't greater
abbrev pub HasOutcome : (Way → List ℕ) → List Outcome → Way → Type 0
HasOutcome text_of outcomes way =
    Any (λ one. (one.text.items ≡ text_of way) × AtMost one.order.items way.order.items) outcomes

module _ (text_of : Way → List ℕ) (front : List Way) (way : Way) (old : List Outcome) (precede : AllPrecede front way)
    (are : AreOutcomes text_of front old) where
  -- each outcome so far is that of a way before this one, so of one of the ways up to it
  more_each : All (IsOf text_of (front ++ way ∷ [])) old
  more_each =
      All-weaker (IsOf text_of front) (IsOf text_of (front ++ way ∷ []))
      (λ one any. any_left (λ w. (one.order.items ≡ w.order.items) × (one.text.items ≡ text_of w)) front
      (way ∷ []) any) old are.each

  -- the order of an outcome of one of the ways before this one precedes this way's order
  before_way : (one : Outcome) → IsOf text_of front one → Precedes one.order.items way.order.items
  before_way one any =
      any_with (λ w. Precedes w.order.items way.order.items)
      (λ w. (one.order.items ≡ w.order.items) × (one.text.items ≡ text_of w))
      (Precedes one.order.items way.order.items) (λ w less is. subst (λ order. Precedes order way.order.items)
      (sym is.0) less) front precede any

  -- if an outcome with the way's text is there, the outcomes are those of the ways up to this one
  outcome_there : (text : List ℕ) → text ≡ text_of way → Any (λ one. one.text.items ≡ text) old
      → AreOutcomes text_of (front ++ way ∷ []) old
  outcome_there text text_is there = record {
    each = more_each;
    all =
        All-push (HasOutcome text_of old) front way are.all
        (any_both (IsOf text_of front) (λ one. one.text.items ≡ text)
        (λ one. (one.text.items ≡ text_of way) × AtMost one.order.items way.order.items)
        (λ one from same. (same ∙ text_is, inr (before_way one from))) old are.each there);
    once = are.once;
    ascending = are.ascending;
  }

  -- if none has the way's text, and its outcome is added, the outcomes are those of the ways up to this one
  outcome_added : (text : List ℕ) (next : Outcome) → text ≡ text_of way → next.order.items ≡ way.order.items
      → next.text.items ≡ text
      → All (λ one. one.text.items ≢ text) old
      → AreOutcomes text_of (front ++ way ∷ []) (old ++ next ∷ [])
  outcome_added text next text_is order_is has others = record {
    each =
        All-push (IsOf text_of (front ++ way ∷ [])) old next more_each
        (any_push (λ w. (next.order.items ≡ w.order.items) × (next.text.items ≡ text_of w)) front way
        (order_is, has ∙ text_is));
    all =
        All-push (HasOutcome text_of (old ++ next ∷ [])) front way
        (All-weaker (HasOutcome text_of old) (HasOutcome text_of (old ++ next ∷ []))
        (λ w any. any_left (λ one. (one.text.items ≡ text_of w) × AtMost one.order.items w.order.items) old
        (next ∷ []) any) front are.all)
        (any_push (λ one. (one.text.items ≡ text_of way) × AtMost one.order.items way.order.items) old next
        (has ∙ text_is, inl order_is));
    once =
        pairwise_push (λ one other. one.text.items ≢ other.text.items) old next are.once
        (All-weaker (λ one. one.text.items ≢ text) (λ one. one.text.items ≢ next.text.items)
        (λ one other same. other (same ∙ has)) old others);
    ascending =
        pairwise_push (λ one other. Precedes one.order.items other.order.items) old next are.ascending
        (All-weaker (IsOf text_of front) (λ one. Precedes one.order.items next.order.items)
        (λ one from. subst (Precedes one.order.items) (sym order_is) (before_way one from)) old are.each);
  }

  -- after the way's outcome is added, unless it was there, the outcomes are those of the ways up to this one
  pub outcome_more : (new : List Outcome) (text : List ℕ) → text ≡ text_of way
      → IsOutcomeAdded way.order.items text old new
      → AreOutcomes text_of (front ++ way ∷ []) new
  outcome_more new text text_is is = grind (arith, outcome_added, outcome_there)

-- the loop over ways: after the outcome of one more is added, unless it was there, the outcomes are those of the ways
-- so far
pub outcome_step : (text_of : Way → List ℕ) (ways : List Way) (old new : List Outcome) (index : ℕ) (way : Way)
    (text : List ℕ) → index < length ways
    → way ≡ get_or ways index way
    → IsAscending order_of ways → text ≡ text_of way → IsOutcomeAdded way.order.items text old new
    → AreOutcomes text_of (take index ways) old
    → AreOutcomes text_of (take (index + 1) ways) new
outcome_step text_of ways old new index way text below at ascending text_is added are =
    subst (λ front. AreOutcomes text_of front new) (sym (take_more ways index way below
    ∙ ap (λ w. take index ways ++ w ∷ []) (sym at)))
    (outcome_more text_of (take index ways) way old
    (subst (λ w. AllPrecede (take index ways) w) (sym at)
    (pairwise_front (λ one other. Precedes (order_of one) (order_of other)) ways index way below ascending))
    are new text text_is added)

-- no ways have no outcomes
pub outcomes_none : (text_of : Way → List ℕ) (outcomes : List Outcome) → outcomes ≡ [] → AreOutcomes text_of [] outcomes
outcomes_none text_of outcomes is = grind (arith)

-- the outcomes of the ways in which each line has had its turn are those of all orders (`IsExplored`)
pub all_explored : (parts : Parts) (first : List ℕ) (ways same : List Way) (outcomes : List Outcome)
    → first ≡ told_text no_state parts.before
    → same ≡ ways
    → IsLevel parts.beside (base_of parts) (length parts.beside) ways
    → AreOutcomes (text_from first parts.later) same outcomes → IsExplored parts outcomes
all_explored parts first ways same outcomes first_is is level given = record {
  each =
      All-weaker (IsOf (text_from first parts.later) ways) (λ one. Gives parts one.order.items one.text.items)
      (λ one any. any_with (IsReached parts.beside (base_of parts) (length parts.beside))
      (λ way. (one.order.items ≡ way.order.items) × (one.text.items ≡ text_from first parts.later way))
      (Gives parts one.order.items one.text.items)
      (λ way reached of. subst (λ order. Gives parts order one.text.items) (sym of.0)
      (record {
        config = config_of way;
        whole = reached.count_is;
        leads = reached.leads;
        text_is = of.1 ∙ ap (λ f. text_from f parts.later way) first_is;
      })) ways level.each any) outcomes are.each;
  all = λ order text gives.
      any_with (HasOutcome (text_from first parts.later) outcomes)
      (λ way. (config_of way ≡ gives.config) × AtMost way.order.items order)
      (Any (λ one. (one.text.items ≡ text) × AtMost one.order.items order) outcomes)
      (λ way has came.
      any_weaker (λ one. (one.text.items ≡ text_from first parts.later way) × AtMost one.order.items way.order.items)
      (λ one. (one.text.items ≡ text) × AtMost one.order.items order)
      (λ one of. (
        of.0 ∙ ap (λ f. text_from f parts.later way) first_is
            ∙ ap (λ (c : Config). told_text no_state parts.before ++ concat c.answers
            ++ told_text c.state parts.later) came.0 ∙ sym gives.text_is,
        at_most_trans one.order.items way.order.items order of.1 came.1,
      )) outcomes has) ways are.all (level.all order gives.config gives.whole gives.leads);
  once = are.once;
  ascending = are.ascending;
}
  where
    are : AreOutcomes (text_from first parts.later) ways outcomes
    are = subst (λ w. AreOutcomes (text_from first parts.later) w outcomes) is given
