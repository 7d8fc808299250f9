-- The loads of a log with a turn keep the rule, and tell what their transitions say.
-- Here `h` is a pass's view: what a seat of the log knows of that pass.
use Rattle.std.proofs.Common.{◌≢◌, ℕ, List, get_or, refl, ap, ◌∙◌, arith}
use Rattle.atomic_table.specs.Table.{State, Allows}
use Rattle.xa_words.{specs.Entry.Entry, proofs.Spelling.length-words_of}
use Rattle.decision_log.specs.declared.{view.{PassView.PassView, SeatView.SeatView, Turn.Turn}, sizes.Sizes.Sizes}
use Rattle.decision_log.specs.{Seats.seated, TurnRule.{HasTurn, TurnRule}, Atomic.Tells}
use Rattle.decision_log.specs.TurnTransitions.{looked_turn, with_look, Sees, Reads}
use Rattle.decision_log.proofs.Histories.{begins_itself, get_begins}
use Rattle.decision_log.proofs.LogRules.{known, history, stepped, unmoved, load_step}

-- what holds of the words of the log and of all passes' views, between any two steps
abbrev pub Rules : Sizes → State Entry SeatView → Type 0
Rules sizes state = TurnRule sizes state.words state.views

-- what a pass knows of its turn is true after a look too, by which it has seen the whole history
looked_has : (words : List ℕ) (log : List Entry) (h : PassView) (turn : Turn) → HasTurn words log h turn
    → HasTurn words log (with_look h log) (looked_turn turn)
looked_has words log h Turn.Without has = has
looked_has words log h Turn.Won has = (refl, has.1)
looked_has words log h Turn.Fresh has = (refl, has.1)

-- a look: the load of the count of entries (word 0) keeps the rule, and tells what `Sees` says
pub look_step : (sizes : Sizes) (slots id : ℕ) (h : PassView)
    → Allows (Rules sizes) slots id (seated h) 0 (λ n. n) (Tells (Sees 0 h))
look_step sizes slots id h =
    load_step sizes slots id 0 h (Sees 0 h)
    (λ words views r here.
    let k = (known r id h here).fact_is in (
      with_look h r.log,
      (stepped r words id h (with_look h r.log) here r.spelled refl refl refl refl (begins_itself r.log) k.mine
          (record { draft = k.own.draft; turn = looked_has words r.log h h.turn k.own.turn })
          (λ g apart low other. other.own)).0,
      (refl, r.log, refl, r.spelled.count, history r h k),
    ))

-- the load of an entry's word keeps the rule, and tells what `Reads` says
pub read_step : (sizes : Sizes) (slots id word : ℕ) (h : PassView) → word ≢ 0
    → Allows (Rules sizes) slots id (seated h) word (λ n. n) (Tells (Reads word h))
read_step sizes slots id word h behind =
    load_step sizes slots id word h (Reads word h)
    (λ words views r here. (
      h,
      unmoved r id h here,
      (
        behind,
        refl,
        (λ place index entry at below is.
            let there = get_begins h.known.seen r.log place entry (known r id h here).fact_is.seen is in (
              (r.entries place entry there).0,
              ap (λ n. get_or words n 0) at ∙ r.spelled.rows place entry there index
                  (omega (arith, length-words_of entry)),
            )),
      ),
    ))
