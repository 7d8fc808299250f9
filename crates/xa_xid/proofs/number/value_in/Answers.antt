use Rattle.std.{proofs.Common.{◌+◌, ◌*◌, ◌≤◌, ◌<◌, get_or, arith, ◌≡◌, ◌∙◌, refl}, specs.Char.digit_value}
use Rattle.xa_xid.proofs.Numbers.{Reached, reached_none, reached_more, reached_all, reached_past}
use Rattle.xa_xid.proofs.number.value_in.Goals as goal

pub loop-digit-init : goal.loop-digit-init
loop-digit-init c = reached_none c.args.base c.args.digits.now

pub returns-in_err-checked_mul : goal.returns-in_err-checked_mul
returns-in_err-checked_mul c =
    let digits = c.args.digits.now in
    let place = c.loop-digit.digit-index in
    let value = c.loop-digit.value in
    let next : Reached c.args.base digits (place + 1) (value * c.args.base + digit_value (get_or digits place 0)) =
    reached_more c.args.base digits place value c.loop-digit-test.true c.loop-digit.invariant in
    let no : value * c.args.base < 18446744073709551616 → ⊥ = c.in_err-checked_mul.ensures in
    let past : 18446744073709551616 ≤ value * c.args.base + digit_value (get_or digits place 0) = omega (arith, no) in
    rw c.from_residual.ensures (reached_past _ digits (place + 1) _ 18446744073709551616 c.requires.positive past next)

pub returns-in_err-value : goal.returns-in_err-value
returns-in_err-value c =
    let digits = c.args.digits.now in
    let place = c.loop-digit.digit-index in
    let value = c.loop-digit.value in
    let next : Reached c.args.base digits (place + 1) (value * c.args.base + digit_value (get_or digits place 0)) =
    reached_more c.args.base digits place value c.loop-digit-test.true c.loop-digit.invariant in
    let no : c.in_ok-checked_mul.field-0 + c.value_of_digit.result < 18446744073709551616 → ⊥ =
    c.in_err-value.ensures in
    let product : c.in_ok-checked_mul.field-0 ≡ value * c.args.base = c.in_ok-checked_mul.ensures.1 in
    let past : 18446744073709551616 ≤ value * c.args.base + digit_value (get_or digits place 0) =
    omega (arith, no, product, c.value_of_digit.ensures.value) in
    rw c.from_residual-in_err-value.ensures (reached_past _ digits
    (place + 1) _ 18446744073709551616 c.requires.positive past next)

pub loop-digit-preserved : goal.loop-digit-preserved
loop-digit-preserved c =
    let digits = c.args.digits.now in
    let place = c.loop-digit.digit-index in
    let value = c.loop-digit.value in
    let next : Reached c.args.base digits (place + 1) (value * c.args.base + digit_value (get_or digits place 0)) =
    reached_more c.args.base digits place value c.loop-digit-test.true c.loop-digit.invariant in
    let same : c.in_ok-value.value ≡ value * c.args.base + digit_value (get_or digits place 0) =
    c.in_ok-value.ensures.1 ∙ rw (c.in_ok-checked_mul.ensures.1, c.value_of_digit.ensures.value) refl in
    rw same next

pub returns : goal.returns
returns c = reached_all c.args.base c.args.digits.now c.loop-digit.digit-index c.loop-digit.value
    c.loop-digit-test.false c.loop-digit.invariant
