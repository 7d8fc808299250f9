use Rattle.std.proofs.{Common.{rules, tests, sym, ◌∙◌}, lemmas.Slice.Eq.slice_eq-Decides}
use Rattle.xa_server.proofs.keys.Keys.is_same.Goals as goal

pub returns : goal.returns
returns c =
    λ e. sym c.self.view_is
    ∙ (slice_eq-Decides (λ a b. search (rules, tests)) c.self.inside.list.items c.other.inside.list.items c.eq.result
    c.eq.ensures).0 e
    ∙ c.other.view_is
