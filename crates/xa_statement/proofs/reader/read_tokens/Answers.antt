use Rattle.std.proofs.Common.{◌≡◌, ◌∙◌, sym, ap, length, ok_or}
use Rattle.xa_xid.specs.Bytes.{unblank}
use Rattle.xa_statement.specs.{Token.token_at, Machine.after_token}
use Rattle.xa_statement.proofs.Run.{read_start, read_step, read_stop, read_finish, rest-short, some_left, none_left}
use Rattle.xa_statement.proofs.reader.read_tokens.Goals as goal

pub loop-rest-init : goal.loop-rest-init
loop-rest-init c = read_start c.args.text.now c.skip_blanks-rest.result.now c.skip_blanks-rest.ensures.value

pub returns-in-None : goal.returns-in-None
returns-in-None c =
    let rest = c.loop-rest.rest.now in
    read_stop c.args.text.now rest c.loop-rest.state (some_left rest c.loop-rest-test.ensures)
    (ap (λ t. after_token c.loop-rest.state t) (sym (ap (λ cut. cut.0) c.token_of-token.ensures)) ∙ sym c.step.ensures
    ∙ c.in-None.is)
    c.loop-rest.invariant

pub loop-rest-smaller : goal.loop-rest-smaller
loop-rest-smaller c =
    let rest = c.loop-rest.rest.now in
    let later : c.skip_blanks-rest-in-loop-rest.result.now ≡ unblank (token_at rest).1 =
    c.skip_blanks-rest-in-loop-rest.ensures.value ∙ ap (λ cut. unblank cut.1) c.token_of-token.ensures in
    rw later (rest-short rest (some_left rest c.loop-rest-test.ensures))

pub loop-rest-preserved : goal.loop-rest-preserved
loop-rest-preserved c =
    let rest = c.loop-rest.rest.now in
    read_step c.args.text.now rest c.skip_blanks-rest-in-loop-rest.result.now c.loop-rest.state c.in-Some.next
    (some_left rest c.loop-rest-test.ensures)
    (ap (λ t. after_token c.loop-rest.state t) (sym (ap (λ cut. cut.0) c.token_of-token.ensures)) ∙ sym c.step.ensures
    ∙ c.in-Some.is)
    (c.skip_blanks-rest-in-loop-rest.ensures.value ∙ ap (λ cut. unblank cut.1) c.token_of-token.ensures)
    c.loop-rest.invariant

pub returns : goal.returns
returns c =
    c.ok_or.ensures.value ∙ ap (λ o. ok_or o (record { at = length c.args.text.now })) c.finish.ensures
    ∙ read_finish c.args.text.now c.loop-rest.rest.now c.loop-rest.state
    (none_left c.loop-rest.rest.now c.loop-rest-test.ensures) c.loop-rest.invariant
