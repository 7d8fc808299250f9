use Rattle.std.proofs.{Common.{map, refl, inl, inr, subst, Option}, lemmas.Result.err_from_is_err_and}
use Rattle.std.specs.{Prelude.IfSome, Option.IsSomeAnd}
use Rattle.clap.specs.Words.{subcommand_rows_of}
use Rattle.xa_script.specs.{Manner.{IsLine, Says}, declared.command_line.CommandLine.CommandLine}
use Rattle.xa_script.proofs.CommandFaults.{kind_of_script, no_fault_of_script, refused_as, found_as_named, found, said}
use Rattle.xa_script.proofs.command_line.line_by.Goals as goal

pub returns-in_err-matches-clause-fault : goal.returns-in_err-matches-clause-fault
returns-in_err-matches-clause-fault g c =
    let p = err_from_is_err_and c.from_residual.result c.from_residual.ensures.1 in
    refused_as (map g.S.AsStr.text c.args.words.now) c.from_residual.result p.0 c.in_err-matches.field-0.0 p.1 p.2
    (kind_of_script _ (map g.S.AsStr.text c.args.words.now) c.in_err-matches.field-0.0 c.requires
    c.in_err-matches.ensures.kinds)

pub returns-in-None-clause-fault : goal.returns-in-None-clause-fault
returns-in-None-clause-fault g c =
    let words = map g.S.AsStr.text c.args.words.now in
    let is = found_as_named _ words c.in_ok-matches.matches c.requires c.in_ok-matches.ensures.ok.2 in
    inr (inl (λ job names. c.in_ok-found.ensures.none c.in-None.is job
    (found words c.in_ok-matches.matches job is names)))

pub returns-in-Some-excess-clause-fault : goal.returns-in-Some-excess-clause-fault
returns-in-Some-excess-clause-fault g c =
    let words = map g.S.AsStr.text c.args.words.now in
    let m = c.in_ok-matches.matches in
    let is = found_as_named _ words m c.requires c.in_ok-matches.ensures.ok.2 in
    let P : Option CommandLine → Type 0 = λ f. IfSome f (λ line. IsSomeAnd (subcommand_rows_of m) (IsLine line)) in
    inr (inr (
      c.in-Some.line,
      said words m c.in-Some.line is (subst P c.in-Some.is c.in_ok-found.ensures.some),
      c.in-Some-excess.ensures.some,
    ))

pub returns-clause-says : goal.returns-clause-says
returns-clause-says g c =
    let words = map g.S.AsStr.text c.args.words.now in
    let m = c.in_ok-matches.matches in
    let is = found_as_named _ words m c.requires c.in_ok-matches.ensures.ok.2 in
    let P : Option CommandLine → Type 0 = λ f. IfSome f (λ line. IsSomeAnd (subcommand_rows_of m) (IsLine line)) in
    said words m c.in-Some.line is (subst P c.in-Some.is c.in_ok-found.ensures.some)

pub returns-clause-fault : goal.returns-clause-fault
returns-clause-fault g c =
    no_fault_of_script _ (map g.S.AsStr.text c.args.words.now) c.requires c.in_ok-matches.ensures.kinds
