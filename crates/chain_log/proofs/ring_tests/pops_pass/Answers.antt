use Rattle.std.proofs.{Common.◌≡◌, lemmas.List.Elements.All-pop}
use Rattle.chain_log.specs.RingPass.{identity_of, log_of}
use Rattle.chain_log.proofs.ring_tests.pops_pass.Goals as goal

pub returns-clause-rest : goal.returns-clause-rest
returns-clause-rest c =
    (All-pop (λ pass. log_of pass ≡ identity_of c.args.log.now) c.args.passes.now.items
    c.pop.new.self.items c.pop.result c.pop.ensures.items c.requires).0

pub returns-clause-last : goal.returns-clause-last
returns-clause-last c =
    (All-pop (λ pass. log_of pass ≡ identity_of c.args.log.now) c.args.passes.now.items
    c.pop.new.self.items c.pop.result c.pop.ensures.items c.requires).1
