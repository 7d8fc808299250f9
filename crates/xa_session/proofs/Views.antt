-- A session stays of its log, over calls one after another, and what they take adds up.
use Rattle.std.proofs.Common.{◌+◌, ℕ, Option, Some, None, refl, ◌∙◌, subst, arith}
use Rattle.xa_session.specs.View.{SessionView, KeepsLimit, StaysOfLog, Takes}

-- a limit that stays as it is isn't lifted
limit_itself : (left : Option ℕ) → KeepsLimit left left
limit_itself None = refl
limit_itself (Some left) = (left, refl, omega arith)

-- a limit that neither of two calls lifts isn't lifted by both together
limit_through : (old mid new : Option ℕ) → KeepsLimit old mid → KeepsLimit mid new → KeepsLimit old new
limit_through None mid new first second = subst (λ m. KeepsLimit m new) first second
limit_through (Some before) mid new first second =
    let last = subst (λ m. KeepsLimit m new) first.1 second in
    (last.0, last.1, omega (arith, first.2, last.2))

-- a session that isn't used stays of its log
pub stays_itself : (session : SessionView) → StaysOfLog session session
stays_itself session = record {
  identity = refl;
  turns = refl;
  base = refl;
  beside = refl;
  left = limit_itself session.left;
  starved = λ starved. starved;
}

-- a session that stays of its log through each of two calls stays so through both
pub stays_through : (old mid new : SessionView) → StaysOfLog old mid → StaysOfLog mid new → StaysOfLog old new
stays_through old mid new first second =
    record {
      identity = second.identity ∙ first.identity;
      turns = second.turns ∙ first.turns;
      base = second.base ∙ first.base;
      beside = second.beside ∙ first.beside;
      left = limit_through old.left mid.left new.left first.left second.left;
      starved = λ starved. second.starved (first.starved starved);
    }

-- a session that takes `count` statements, and then `more`, has taken `count + more`
pub takes_through : (count more : ℕ) (old mid new : Option ℕ) → Takes count old mid → Takes more mid new
    → Takes (count + more) old new
takes_through count more None mid new first second = subst (λ m. Takes more m new) first second
takes_through count more (Some before) mid new first second =
    let last = subst (λ m. Takes more m new) first.1 second in
    (last.0, last.1, omega (arith, first.2, last.2))
