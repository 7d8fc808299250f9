use Rattle.xa_lines.specs.Script.{lines_of}
use Rattle.xa_record.{specs.Reading.notes_by, proofs.Reported.judgement_of}
use Rattle.xa_record.proofs.judging.verdict_on.Goals as goal

pub returns : goal.returns
returns g c =
    judgement_of c.report_of.result c.args.base.now c.args.allowances.now (lines_of c.args.text.now)
    (notes_by c.args.asked.strict_calls c.args.text.now).told c.args.asked c.args.events.now
    c.in_ok-verdict.verdict c.requires.bare c.requires.are c.are_written_calls.ensures c.in_ok-verdict.ensures.verdict
    c.report_of.ensures
