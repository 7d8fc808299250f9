use Rattle.std.proofs.Common.{◌≡◌, ◌∙◌, sym, ap, Ok, Err, rules}
use Rattle.xa_xid.specs.Literal.{literal_ahead}
use Rattle.xa_xid.proofs.Places.{text_between, between_text, no_text_between, literal_fault_from}
use Rattle.xa_xid.proofs.literal.read_literal.Goals as goal

pub returns-clause-spelled : goal.returns-clause-spelled
returns-clause-spelled c =
    text_between c.args.text.now c.args.at c.in_ok-bytes.bytes c.in_ok-bytes.rest.now
    (ap literal_ahead (sym c.text_from.ensures) ∙ c.in_ok-bytes.ensures.value)

pub returns-clause-complete : goal.returns-clause-complete
returns-clause-complete c =
    between_text c.args.text.now c.args.at (Ok (c.in_ok-bytes.bytes, c.in_ok-bytes.rest.now))
    (ap literal_ahead (sym c.text_from.ensures) ∙ c.in_ok-bytes.ensures.value)

pub returns-in_err-bytes-clause-complete : goal.returns-in_err-bytes-clause-complete
returns-in_err-bytes-clause-complete c = λ bytes next form.
    absurd (no_text_between c.args.text.now c.args.at c.in_err-bytes.field-0.0
    (ap literal_ahead (sym c.text_from.ensures) ∙ c.in_err-bytes.ensures.value) bytes next form)

pub returns-clause-faulty : goal.returns-clause-faulty
returns-clause-faulty c =
    literal_fault_from c.args.text.now c.args.at (Ok (c.in_ok-bytes.bytes, c.in_ok-bytes.rest.now))
    (ap literal_ahead (sym c.text_from.ensures) ∙ c.in_ok-bytes.ensures.value)

pub returns-in_err-bytes-clause-faulty : goal.returns-in_err-bytes-clause-faulty
returns-in_err-bytes-clause-faulty c =
    let fault = c.in_err-bytes.field-0.0 in
    let same : c.from_residual.result ≡ Err fault = search rules in
    rw same (literal_fault_from c.args.text.now c.args.at (Err fault)
    (ap literal_ahead (sym c.text_from.ensures) ∙ c.in_err-bytes.ensures.value))
