use Rattle.std.proofs.{Common.{length, refl, ap, sym, ◌++◌, ◌∙◌}, lemmas.Option.slice_get_read}
use Rattle.xa_judge.specs.declared.configuration.Configuration.{Configuration}
use Rattle.xa_judge.proofs.trunk.path_of.Goals as goal

pub returns : goal.returns
returns c = (
  c.index-known-0.result,
  slice_get_read c.args.known.now (length c.args.known.now) 0 c.index-known-0.result refl c.requires c.index-known-0.is,
  c.in_ok-add_to.ensures ∙ ap (λ (one : Configuration). c.args.trunk.items ++ one.path) (sym c.index-known-0.is),
)
