use Rattle.std.proofs.{Common.{◌≡◌, refl}, lemmas.List.Elements.AllZip-push}
use Rattle.xa_store.{specs.Passes.{log_of, known_of}, proofs.Gathering.{last_known_of, zip_itself}}
use Rattle.xa_store.proofs.store.Store.renew.Goals as goal

pub returns-in-Ok-clause-base : goal.returns-in-Ok-clause-base
returns-in-Ok-clause-base c =
    rw (c.take_last-last.ensures.items, last_known_of known_of c.take_last-last.new.self.items c.take_last-last.result)
    c.in-Ok.ensures.base

pub returns-in-Err-clause-passes : goal.returns-in-Err-clause-passes
returns-in-Err-clause-passes c =
    rw (c.take_last-last.ensures.items, c.push_reserved.ensures.items)
    (AllZip-push (λ old new. (log_of new ≡ log_of old) × (known_of new ≡ known_of old)) c.take_last-last.new.self.items
    c.take_last-last.new.self.items
    c.take_last-last.result c.anew.new.last
    (zip_itself _ (λ pass. (refl, refl)) c.take_last-last.new.self.items)
    (c.anew.ensures.belongs, c.anew.ensures.same))
