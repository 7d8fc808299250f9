use Rattle.std.{proofs.Common.{subst, Option, List, [], ◌≡◌, map}, specs.Prelude.{IfOk, unwrap_or}}
use Rattle.clap.{specs.Words.{Text, found_of}, proofs.WalkLemmas.raw_values-rows}
use Rattle.xa_script.proofs.found.texts_in.Goals as goal

pub returns : goal.returns
returns c =
    let P : Option (List Text) → Type 0 =
    λ values. IfOk c.texts_at.result (λ texts. map (λ text. text.now) texts.items ≡ unwrap_or values []) in
    subst P (raw_values-rows (found_of c.args.found.now) c.args.name.now) c.texts_at.ensures
