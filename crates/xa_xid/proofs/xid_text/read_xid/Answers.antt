use Rattle.std.proofs.Common.{◌∙◌, ap, Ok, Err}
use Rattle.xa_xid.{specs.Bytes.unblank, proofs.Places.{xid_between, between_xid, xid_fault_between, between_xid_fault}}
use Rattle.xa_xid.proofs.xid_text.read_xid.Goals as goal

pub returns-in-Ok-clause-spelled : goal.returns-in-Ok-clause-spelled
returns-in-Ok-clause-spelled c =
    xid_between c.args.text.now c.skip_blanks.result.now c.args.at c.in-Ok.xid c.in-Ok.rest.now
    (c.skip_blanks.ensures.value ∙ ap unblank c.text_from.ensures) c.in-Ok.ensures.value

pub returns-in-Ok-clause-complete : goal.returns-in-Ok-clause-complete
returns-in-Ok-clause-complete c =
    between_xid c.args.text.now c.skip_blanks.result.now c.args.at (Ok (c.in-Ok.xid, c.in-Ok.rest.now))
    (c.skip_blanks.ensures.value ∙ ap unblank c.text_from.ensures) c.in-Ok.ensures.value

pub returns-in-Err-clause-complete : goal.returns-in-Err-clause-complete
returns-in-Err-clause-complete c =
    between_xid c.args.text.now c.skip_blanks.result.now c.args.at (Err (c.in-Err.fault, c.in-Err.rest.now))
    (c.skip_blanks.ensures.value ∙ ap unblank c.text_from.ensures) c.in-Err.ensures.value

pub returns-in-Ok-clause-told : goal.returns-in-Ok-clause-told
returns-in-Ok-clause-told c =
    between_xid_fault c.args.text.now c.skip_blanks.result.now c.args.at (Ok (c.in-Ok.xid, c.in-Ok.rest.now))
    (c.skip_blanks.ensures.value ∙ ap unblank c.text_from.ensures) c.in-Ok.ensures.value

pub returns-in-Err-clause-faulty : goal.returns-in-Err-clause-faulty
returns-in-Err-clause-faulty c =
    xid_fault_between c.args.text.now c.skip_blanks.result.now c.args.at c.in-Err.fault c.in-Err.rest.now
    (c.skip_blanks.ensures.value ∙ ap unblank c.text_from.ensures) c.in-Err.ensures.value

pub returns-in-Err-clause-told : goal.returns-in-Err-clause-told
returns-in-Err-clause-told c =
    between_xid_fault c.args.text.now c.skip_blanks.result.now c.args.at (Err (c.in-Err.fault, c.in-Err.rest.now))
    (c.skip_blanks.ensures.value ∙ ap unblank c.text_from.ensures) c.in-Err.ensures.value
