use Rattle.xa_record.proofs.{ReplayedEffects.order_gives, RunAnswers.{line_answered, line_followed, order_joined}}
use Rattle.xa_record.proofs.laws.order_is_replayed.Goals as goal

pub returns : goal.returns
returns c = record { written = order_joined; effects = order_gives; answers = line_answered; states = line_followed }
