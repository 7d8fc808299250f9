-- What a pass knows after steps that append nothing.
use Rattle.std.specs.Prelude.{◌≡◌, ◌≤◌}
use Rattle.decision_log.specs.{History.Begins, declared.known.Known.Known}

-- more may be seen, and nothing was tried or appended
pub record HasOnlySeen (old new : Known) : Type 0 where
  pub number : new.number ≡ old.number
  pub seen : Begins old.seen new.seen
  pub mine : new.mine ≡ old.mine
  pub looks : old.looks ≤ new.looks
  pub tries : new.tries ≡ old.tries
