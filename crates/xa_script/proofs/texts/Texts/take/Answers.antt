use Rattle.std.proofs.Common.{◌≡◌, ◌∙◌, ℕ, ◌+◌, ◌++◌, true, false, List, ap, sym, subst, take, drop, inr, arith}
use Rattle.std.proofs.lemmas.Grind.{common_steps}
use Rattle.xa_script.specs.{TextLines.ends_line, Owing.IsEnded, declared.line_form.LineForm.LineForm}
use Rattle.xa_script.proofs.Owed.{due_behind, begun_more}
use Rattle.xa_script.proofs.texts.Texts.take.Goals as goal

pub loop-taken-preserved : goal.loop-taken-preserved
loop-taken-preserved g c =
    let old = c.args.self.now in
    let line : c.push.new.self.items ≡ old.held.items ++ take (c.loop-taken.taken + 1) c.args.bytes.now =
    grind (arith, common_steps) in
    let last : ends_line old.rows (old.held.items ++ take (c.loop-taken.taken + 1) c.args.bytes.now) ≡ false =
    subst (λ (n : ℕ). ends_line n (old.held.items ++ take (c.loop-taken.taken + 1) c.args.bytes.now) ≡ false)
    c.loop-taken.invariant.rows
    (subst (λ (xs : List ℕ). ends_line c.loop-taken.self.rows xs ≡ false) line
    (sym c.is_whole.ensures ∙ c.if-is_whole.false)) in
    record {
      within = omega arith;
      given = c.loop-taken.invariant.given;
      due = c.loop-taken.invariant.due;
      inner = c.loop-taken.invariant.inner;
      passes = c.loop-taken.invariant.passes;
      form = c.loop-taken.invariant.form;
      rows = c.loop-taken.invariant.rows;
      begun = begun_more old.rows old.held.items c.args.bytes.now c.loop-taken.taken c.loop-taken.invariant.begun last;
      held = line;
    }

pub returns-then-is_whole-clause-taken : goal.returns-then-is_whole-clause-taken
returns-then-is_whole-clause-taken g c =
    let contents = g.W.Write.contents in
    let old = c.args.self.now in
    let new = c.end_line.new.self in
    let line : c.push.new.self.items ≡ old.held.items ++ take (c.loop-taken.taken + 1) c.args.bytes.now =
    grind (arith, common_steps) in
    let whole : ends_line c.loop-taken.self.rows c.push.new.self.items ≡ true =
    sym c.is_whole.ensures ∙ c.if-is_whole.true in
    inr (record {
      text = new.due.items;
      whole = subst (λ (n : ℕ). ends_line n (old.held.items ++ take (c.loop-taken.taken + 1) c.args.bytes.now) ≡ true)
          c.loop-taken.invariant.rows (subst (λ (xs : List ℕ). ends_line c.loop-taken.self.rows xs ≡ true) line whole);
      written =
          subst (λ (form : LineForm). IsEnded form old.rows
          (old.held.items ++ take (c.loop-taken.taken + 1) c.args.bytes.now) new.due.items new.rows)
          c.loop-taken.invariant.form
          (subst (λ (n : ℕ). IsEnded c.loop-taken.self.form n
          (old.held.items ++ take (c.loop-taken.taken + 1) c.args.bytes.now) new.due.items new.rows)
          c.loop-taken.invariant.rows
          (subst (λ (xs : List ℕ). IsEnded c.loop-taken.self.form c.loop-taken.self.rows xs new.due.items new.rows) line
          c.end_line.ensures.written));
      sent =
          due_behind (contents old.inner) (contents new.inner)
          (drop old.given old.due.items) new.due.items new.held.items new.given
          (ap contents (c.end_line.ensures.inner ∙ c.loop-taken.invariant.inner)) c.requires.due
          c.end_line.ensures.given c.end_line.ensures.held;
      held = c.end_line.ensures.held;
      passes = c.end_line.ensures.passes ∙ c.loop-taken.invariant.passes;
    })
