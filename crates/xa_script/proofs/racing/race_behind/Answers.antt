use Rattle.std.{proofs.Common.{Bool, sym, subst}, specs.Prelude.{OnOk, IfSome}}
use Rattle.xa_script.specs.Status.{AppendsRaceBy}
use Rattle.xa_script.proofs.racing.race_behind.Goals as goal

pub returns-then-renews : goal.returns-then-renews
returns-then-renews g c =
    let P : Bool → Type 0 = λ renews. OnOk c.race_script_in_rounds.result (IfSome (g.I.Read.remaining c.args.input.now)
    (λ script. AppendsRaceBy renews c.args.capacity script (g.O.Write.contents c.args.output.now)
    (g.O.Write.contents c.race_script_in_rounds.new.writer))) in
    subst P (sym c.if-renews.true) c.race_script_in_rounds.ensures.written

pub returns-else-renews : goal.returns-else-renews
returns-else-renews g c =
    let P : Bool → Type 0 = λ renews. OnOk c.race_script.result (IfSome (g.I.Read.remaining c.args.input.now)
    (λ script. AppendsRaceBy renews c.args.capacity script (g.O.Write.contents c.args.output.now)
    (g.O.Write.contents c.race_script.new.writer))) in
    subst P (sym c.if-renews.false) c.race_script.ensures.written
