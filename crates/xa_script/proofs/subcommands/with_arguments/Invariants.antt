use Rattle.std.proofs.Common.{◌≡◌, drop}
use Rattle.clap.specs.Words.{app_of}
use Rattle.xa_script.specs.CommandLine.{IsLocal, with_offers}
use Rattle.xa_script.proofs.subcommands.with_arguments.Given as goal

abbrev pub invariant-loop-offer : goal.invariant-loop-offer
invariant-loop-offer l = record {
  app : with_offers (app_of l.more) (drop l.offer-index l.offers) ≡ with_offers (app_of l.fn.command) l.offers;
  local : IsLocal l.more;
}
