use Rattle.xa_judge.proofs.Told.{passes_of, whole_told}
use Rattle.xa_judge.proofs.ways.judge_kept.Goals as goal

pub returns-in-Legal-clause-told : goal.returns-in-Legal-clause-told
returns-in-Legal-clause-told g c = whole_told (rw c.in-Legal.is at c.in_ok-moves.ensures.told)

pub returns-in-Illegal-clause-told : goal.returns-in-Illegal-clause-told
returns-in-Illegal-clause-told g c = whole_told (rw c.in-Illegal.is at c.in_ok-moves.ensures.told)

pub returns-in-Undecided-clause-told : goal.returns-in-Undecided-clause-told
returns-in-Undecided-clause-told g c = passes_of (whole_told c.in_ok-moves.ensures.told)
