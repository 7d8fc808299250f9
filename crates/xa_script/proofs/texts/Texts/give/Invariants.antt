use Rattle.std.{proofs.Common.{◌≡◌, ◌-◌, length}, specs.Io.KnownBytes.Keeps}
use Rattle.xa_script.specs.Owing.{sent_of}
use Rattle.xa_script.proofs.texts.Texts.give.Given as goal

abbrev pub invariant-loop-self : goal.invariant-loop-self
invariant-loop-self g l = record {
  sent : Keeps (sent_of g.W.Write.contents l.fn.self) (sent_of g.W.Write.contents l.self);
  passes : l.self.passes ≡ l.fn.self.passes;
  held : l.self.held ≡ l.fn.self.held;
  form : l.self.form ≡ l.fn.self.form;
  rows : l.self.rows ≡ l.fn.self.rows;
}

abbrev pub decreases-loop-self : goal.decreases-loop-self
decreases-loop-self g l = length l.self.due.items - l.self.given
