use Rattle.std.proofs.Common.{◌+◌, length, zero-add}
use Rattle.xa_judge.{specs.Told.no_pass, proofs.Told.told_of}
use Rattle.xa_judge.proofs.ways.tell_verdict.Goals as goal

pub returns-in-None-clause-told : goal.returns-in-None-clause-told
returns-in-None-clause-told g c = no_pass

pub returns-in-Some-Legal-clause-told : goal.returns-in-Some-Legal-clause-told
returns-in-Some-Legal-clause-told g c = told_of c.tell_first.ensures (zero-add (length c.args.events.now))

pub returns-in-Some-Illegal-clause-told : goal.returns-in-Some-Illegal-clause-told
returns-in-Some-Illegal-clause-told g c =
    told_of c.tell_first-in-Some-Illegal.ensures (zero-add (c.in-Some-Illegal.place + 1))

pub returns-in-Some-Undecided-clause-told : goal.returns-in-Some-Undecided-clause-told
returns-in-Some-Undecided-clause-told g c = no_pass
