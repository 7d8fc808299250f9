use Rattle.std.proofs.Common.{◌≡◌, ◌∙◌, ℕ, true, Some, ap, sym, subst, inl, inr, rules, tests}
use Rattle.std.specs.{Prelude.slice_get, Option.option_copied}
use Rattle.xa_xid.specs.declared.statement.Statement.{Statement, TheVariants.Disconnect}
use Rattle.xa_server.specs.State.{State}
use Rattle.xa_judge.{specs.{Explained.Config, Found.config_of}, proofs.Commuting.leaving_spared}
use Rattle.xa_judge.specs.Apart.{AreApart, open_statement, is_gone, HasOpen, IsApartAt}
use Rattle.xa_judge.proofs.apart.is_apart.Goals as goal

-- what two sessions have open is apart, if so are what both have called for, and each one's DISCONNECT, if its client
-- is gone, and what the other one has called for
all_apart : (state : State) (config : Config) (other session : ℕ) → state ≡ config.state
    → ((one two : Statement) → open_statement (slice_get config.clients other) ≡ Some one
    → open_statement (slice_get config.clients session) ≡ Some two → AreApart state other one session two)
    → (is_gone (slice_get config.clients other) ≡ true → (two : Statement)
    → open_statement (slice_get config.clients session) ≡ Some two → AreApart state other Disconnect session two)
    → (is_gone (slice_get config.clients session) ≡ true → (one : Statement)
    → open_statement (slice_get config.clients other) ≡ Some one → AreApart state other one session Disconnect)
    → IsApartAt config other session
all_apart state config other session same called first second = λ one two opens its.
    subst (λ s. AreApart s other one session two) same (by one two opens its)
  where
    by : (one two : Statement) → HasOpen config other one → HasOpen config session two
        → AreApart state other one session two
    by one two (inl opens) (inl its) = called one two opens its
    by one two (inr gone) (inl its) =
        subst (λ s. AreApart state other s session two) (sym gone.1) (first gone.0 two its)
    by one two (inl opens) (inr gone) =
        subst (λ s. AreApart state other one session s) (sym gone.1) (second gone.0 one opens)
    by one two (inr gone) (inr its) =
        subst (λ s. AreApart state other s session two) (sym gone.1)
        (subst (λ s. AreApart state other Disconnect session s) (sym its.1)
        (leaving_spared state session Disconnect, leaving_spared state other Disconnect))

pub returns : goal.returns
returns c = λ e.
    let config : Config = config_of c.args.one.now in
    let theirs : option_copied c.open_statement-theirs.result
    ≡ open_statement (slice_get config.clients c.args.other) =
    c.open_statement-theirs.ensures ∙ ap open_statement c.client-first.ensures.value in
    let own : option_copied c.open_statement-own.result
    ≡ open_statement (slice_get config.clients c.args.session) =
    c.open_statement-own.ensures ∙ ap open_statement c.client-second.ensures.value in
    let both : c.in_ok-are_both_apart.field-0 ≡ true = search (rules, tests) in
    let first : c.in_ok-are_both_apart-2.field-0 ≡ true = search (rules, tests) in
    all_apart c.args.server.now config c.args.other c.args.session c.requires.same
    (λ one two opens its. c.in_ok-are_both_apart.ensures both one two (theirs ∙ opens) (own ∙ its))
    (λ gone two its. c.in_ok-are_both_apart-2.ensures first Disconnect two
    (c.leaving_of-their_leaving.ensures (ap is_gone c.client-first.ensures.value ∙ gone)) (own ∙ its))
    (λ gone one opens. c.in_ok-yes.ensures e one Disconnect (theirs ∙ opens)
    (c.leaving_of-own_leaving.ensures (ap is_gone c.client-second.ensures.value ∙ gone)))
