use Rattle.std.proofs.Common.{subst, Option}
use Rattle.clap.{specs.Words.{Text, found_of}, proofs.WalkLemmas.one_text-rows}
use Rattle.xa_script.specs.CommandLine.{IsNumberOf}
use Rattle.xa_script.proofs.found.number_in.Goals as goal

pub returns : goal.returns
returns c =
    let P : Option Text → Type 0 = λ value. IsNumberOf c.args.least c.args.most value c.number_at.result in
    subst P (one_text-rows (found_of c.args.found.now) c.args.name.now) c.number_at.ensures
