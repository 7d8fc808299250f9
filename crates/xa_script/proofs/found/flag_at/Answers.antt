use Rattle.std.{proofs.Common.{◌∙◌, sym}, specs.Str.Parse.ParsesBool}
use Rattle.clap.specs.Words.{found_of, one_text}
use Rattle.xa_script.proofs.Values.{flag_read, no_flag_read, flag_of}
use Rattle.xa_script.proofs.found.flag_at.Goals as goal

pub returns : goal.returns
returns c =
    let given = one_text (found_of c.args.found.now) c.args.name.now in
    flag_of given c.unwrap_or.result
    (λ is. flag_read (λ bs r. ParsesBool bs r) (λ text r gives. gives) given c.get_one.result c.get_one.ensures.none
    c.get_one.ensures.value
    (sym c.unwrap_or.ensures ∙ is))
    (λ is. no_flag_read (λ bs r. ParsesBool bs r) (λ text r gives. gives) given c.get_one.result c.get_one.ensures.none
    c.get_one.ensures.value
    (sym c.unwrap_or.ensures ∙ is))
