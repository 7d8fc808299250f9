use Rattle.std.proofs.Common.{List, subst, ◌∙◌}
use Rattle.xa_xid.specs.declared.statement.Statement.{Statement}
use Rattle.xa_races.specs.Long.{known_in, EndsAt}
use Rattle.xa_races.proofs.racer.RacerTask.work.Goals as goal

pub returns-clause-ok : goal.returns-clause-ok
returns-clause-ok g c =
    let said = c.say_out-fault in
    record {
      store = c.leave_checkpoint.ensures.store ∙ said.ensures.store;
      mid = said.new.session;
      ends =
          subst (λ (lines : List Statement). EndsAt (g.G.Gate.may_answer c.args.self.gate.now)
          (known_in c.args.self.session) lines
          said.new.said.answers.items said.result said.new.session) c.as_slice.ensures.value said.ensures.ends;
      rests = c.leave_checkpoint.ensures.rests;
      own = said.ensures.own;
    }
