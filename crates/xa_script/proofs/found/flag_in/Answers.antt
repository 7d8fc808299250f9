use Rattle.std.proofs.Common.{subst, Option}
use Rattle.clap.{specs.Words.{Text, found_of}, proofs.WalkLemmas.one_text-rows}
use Rattle.xa_script.specs.CommandLine.{IsFlagOf}
use Rattle.xa_script.proofs.found.flag_in.Goals as goal

pub returns : goal.returns
returns c =
    let P : Option Text → Type 0 = λ given. IsFlagOf given c.flag_at.result in
    subst P (one_text-rows (found_of c.args.found.now) c.args.name.now) c.flag_at.ensures
