use Rattle.std.proofs.Common.{◌∙◌, sym, refl}
use Rattle.xa_manager.proofs.{States.same_whole, Said.agreed_logs}
use Rattle.xa_manager.proofs.manager.Manager.recover.Goals as goal

pub returns : goal.returns
returns g c = record {
  outcome = c.recover.result;
  told = refl;
  done = rw (← c.args.self.now.named) c.recover.ensures.recovers;
  broken = rw (← c.args.self.now.named) c.recover.ensures.breaks;
  free = c.recover.ensures.free;
  marks = c.recover.ensures.marks;
  alone = record {
    logs = agreed_logs g.C.Speak.view c.recover.new.decisions c.args.self.now.coordinator.name.items
        c.args.self.now.coordinator.stores.items
        c.recover.new.self.stores.items c.recover.ensures.agrees;
    count = sym c.recover.new.self.stores.ok.0 ∙ c.recover.ensures.count ∙ c.args.self.now.coordinator.stores.ok.0;
    stands = same_whole _ _ _ _ _ _ _ _ _ c.recover.ensures.count c.recover.ensures.closed refl;
  };
}
