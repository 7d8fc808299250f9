use Rattle.std.proofs.Common.{◌≡◌, ◌∙◌, Some, None, [], true, false, map, sym, refl, rules, subst}
use Rattle.std.specs.Prelude.{option_map, unwrap_or}
use Rattle.xa_script.specs.{CommandLine.audits, Jobs.HasAudited, Several.{listing_asked, ListsAll, AfterListing}}
use Rattle.xa_script.specs.Status.{AppendsAuditBy, AfterAuditing}
use Rattle.xa_script.proofs.JobEnds.{ended_by, none_ended, of_histories, one_ended}
use Rattle.xa_script.proofs.from_reader.end_all.Goals as goal

pub returns-then-is_audit : goal.returns-then-is_audit
returns-then-is_audit g c = λ texts are.
    let line = c.args.line.now in
    let old = g.O.Write.contents c.args.output.now in
    let new = g.O.Write.contents c.audit_within.new.writer in
    ended_by (audits line.job) (listing_asked line) true (listing_asked line) line c.args.base.now
    c.args.allowances.now _ texts old new c.audit_within.result (sym c.is_audit.ensures.audits ∙ c.if-is_audit.true)
    refl
    (subst (λ form. HasAudited texts form old new c.audit_within.result) c.form_asked.ensures
    (of_histories c.audit_within.result texts
    (λ all. map (λ input. g.I.Read.remaining input.inner) c.args.inputs.items ≡ map Some all)
    (λ all status. AppendsAuditBy all c.form_asked.result status old new)
    (λ all fault. AfterAuditing all c.form_asked.result fault old new)
    c.audit_within.ensures.audited c.audit_within.ensures.fault are))

pub returns-in-Some : goal.returns-in-Some
returns-in-Some g c = λ texts are.
    let line = c.args.line.now in
    let asked = c.in-Some.asked in
    let names = map (λ input. unwrap_or (option_map (λ name. name.now) input.name) []) c.args.inputs.items in
    let old = g.O.Write.contents c.args.output.now in
    let new = g.O.Write.contents c.list_within.new.writer in
    ended_by (audits line.job) (listing_asked line) false (Some asked) line c.args.base.now c.args.allowances.now names
    texts old new c.list_within.result (sym c.is_audit.ensures.audits ∙ c.if-is_audit.false)
    (sym c.listing_in.ensures.asked ∙ c.in-Some.is)
    (of_histories c.list_within.result texts
    (λ all. map (λ input. g.I.Read.remaining input.inner) c.args.inputs.items ≡ map Some all)
    (λ all status. ListsAll c.args.base.now c.args.allowances.now asked line.manner.strict line.manner.tap names all
    status old new)
    (λ all fault. AfterListing c.args.base.now c.args.allowances.now asked line.manner.tap names all fault old new)
    c.list_within.ensures.listed c.list_within.ensures.fault are)

pub returns-in-Some-pop : goal.returns-in-Some-pop
returns-in-Some-pop g c = λ texts are.
    let line = c.args.line.now in
    let names = map (λ input. unwrap_or (option_map (λ name. name.now) input.name) []) c.args.inputs.items in
    let old = g.O.Write.contents c.args.output.now in
    let new = g.O.Write.contents c.end_one.new.output in
    ended_by (audits line.job) (listing_asked line) false None line c.args.base.now c.args.allowances.now names texts
    old new c.end_one.result (sym c.is_audit.ensures.audits ∙ c.if-is_audit.false)
    (sym c.listing_in.ensures.asked ∙ c.in_default.is)
    (one_ended (λ input. g.I.Read.remaining input.inner) c.pop.new.self.items c.args.inputs.items c.in-Some-pop.input
    line c.args.base.now c.args.allowances.now names texts old new c.end_one.result (search rules) are
    c.end_one.ensures)

pub returns : goal.returns
returns g c = λ texts are.
    let line = c.args.line.now in
    let names = map (λ input. unwrap_or (option_map (λ name. name.now) input.name) []) c.args.inputs.items in
    ended_by (audits line.job) (listing_asked line) false None line c.args.base.now c.args.allowances.now names texts
    _ _ _ (sym c.is_audit.ensures.audits ∙ c.if-is_audit.false)
    (sym c.listing_in.ensures.asked ∙ c.in_default.is)
    (none_ended (λ input. g.I.Read.remaining input.inner) c.args.inputs.items line c.args.base.now
    c.args.allowances.now names texts _ _ _ (search rules) are)
