use Rattle.xa_record.proofs.shrinking.is_refuted_at_last.Goals as goal

pub returns : goal.returns
returns c = λ last. (c.in_ok-verdict.verdict, c.in_ok-verdict.ensures, c.is_at_last.ensures last)
