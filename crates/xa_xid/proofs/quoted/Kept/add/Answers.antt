use Rattle.std.proofs.{Common.{sym, ◌∙◌}, lemmas.Bool.{eqb-true, eqb-false}}
use Rattle.xa_xid.proofs.Texts.{kept_grown, kept_full, kept_past}
use Rattle.xa_xid.proofs.quoted.Kept.add.Goals as goal

pub returns-then-is_full : goal.returns-then-is_full
returns-then-is_full c xs e =
    kept_full xs c.args.byte c.in-Some.bytes (sym c.in-Some.is ∙ e) (eqb-true _ _ (sym c.if-is_full.ensures.value))

pub returns-else-is_full : goal.returns-else-is_full
returns-else-is_full c xs e =
    kept_grown xs c.args.byte c.in-Some.bytes c.push.new.self (sym c.in-Some.is ∙ e)
    (eqb-false _ _ (sym c.if-is_full.ensures.value)) c.if-is_full.ensures.fits c.push.ensures.items

pub returns-in_default : goal.returns-in_default
returns-in_default c xs e = c.in_default.is ∙ kept_past xs c.args.byte (sym c.in_default.is ∙ e)
