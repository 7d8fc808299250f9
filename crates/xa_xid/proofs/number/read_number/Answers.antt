use Rattle.std.proofs.Common.{◌≡◌, ◌∙◌, sym, ap, Ok, Err, rules}
use Rattle.xa_xid.specs.Number.{number_ahead}
use Rattle.xa_xid.proofs.Places.{number_between, between_number, no_number_between, number_fault_from}
use Rattle.xa_xid.proofs.number.read_number.Goals as goal

pub returns-clause-spelled : goal.returns-clause-spelled
returns-clause-spelled c =
    number_between c.args.text.now c.args.at c.in_ok-number.number c.in_ok-number.rest.now
    (ap number_ahead (sym c.text_from.ensures) ∙ c.in_ok-number.ensures.value)

pub returns-clause-complete : goal.returns-clause-complete
returns-clause-complete c =
    between_number c.args.text.now c.args.at (Ok (c.in_ok-number.number, c.in_ok-number.rest.now))
    (ap number_ahead (sym c.text_from.ensures) ∙ c.in_ok-number.ensures.value)

pub returns-in_err-number-clause-complete : goal.returns-in_err-number-clause-complete
returns-in_err-number-clause-complete c = λ number next form.
    absurd (no_number_between c.args.text.now c.args.at c.in_err-number.field-0.0
    (ap number_ahead (sym c.text_from.ensures) ∙ c.in_err-number.ensures.value) number next form)

pub returns-clause-faulty : goal.returns-clause-faulty
returns-clause-faulty c =
    number_fault_from c.args.text.now c.args.at (Ok (c.in_ok-number.number, c.in_ok-number.rest.now))
    (ap number_ahead (sym c.text_from.ensures) ∙ c.in_ok-number.ensures.value)

pub returns-in_err-number-clause-faulty : goal.returns-in_err-number-clause-faulty
returns-in_err-number-clause-faulty c =
    let fault = c.in_err-number.field-0.0 in
    let same : c.from_residual.result ≡ Err fault = search rules in
    rw same (number_fault_from c.args.text.now c.args.at (Err fault)
    (ap number_ahead (sym c.text_from.ensures) ∙ c.in_err-number.ensures.value))
