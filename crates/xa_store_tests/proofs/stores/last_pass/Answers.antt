use Rattle.std.proofs.{Common.{◌≡◌, Some}, lemmas.List.Elements.All-pop}
use Rattle.xa_store.specs.Passes.{identity_of, log_of}
use Rattle.xa_store_tests.proofs.stores.last_pass.Goals as goal

pub returns-clause-others : goal.returns-clause-others
returns-clause-others g c =
    (All-pop (λ pass. log_of pass ≡ identity_of c.args.store.now.log) c.args.passes.now.items c.pop.new.self.items
    (Some c.in-Some.pass) c.in-Some.ensures.items
    c.requires).0
