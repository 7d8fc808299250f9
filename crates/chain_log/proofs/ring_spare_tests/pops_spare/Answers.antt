use Rattle.std.proofs.{Common.◌≡◌, lemmas.List.Elements.All-pop}
use Rattle.chain_log.specs.{RingPass.identity_of, RingSpare.spare_log_of}
use Rattle.chain_log.proofs.ring_spare_tests.pops_spare.Goals as goal

pub returns-clause-rest : goal.returns-clause-rest
returns-clause-rest c =
    (All-pop (λ spare. spare_log_of spare ≡ identity_of c.args.log.now) c.args.spares.now.items
    c.pop.new.self.items c.pop.result c.pop.ensures.items c.requires).0

pub returns-clause-last : goal.returns-clause-last
returns-clause-last c =
    (All-pop (λ spare. spare_log_of spare ≡ identity_of c.args.log.now) c.args.spares.now.items
    c.pop.new.self.items c.pop.result c.pop.ensures.items c.requires).1
