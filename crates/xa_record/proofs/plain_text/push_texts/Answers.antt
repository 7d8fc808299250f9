use Rattle.std.proofs.{Common.{ℕ, Vec, Global, List, ◌++◌, map, ap, ◌∙◌}, lemmas.Map.Iter.{rest_more, rest_all}}
use Rattle.std.specs.Map.Iter.{deref}
use Rattle.xa_record.{specs.VerdictText.answers_text, proofs.Texts.{written-text, written-whole}}
use Rattle.xa_record.proofs.plain_text.push_texts.Goals as goal

pub loop-text-preserved : goal.loop-text-preserved
loop-text-preserved c =
    let left = c.loop-text.text-iterator in
    let rest = c.next.new.self in
    let more = rest_more deref left rest c.next.result c.in-Some.text c.in-Some.is c.next.ensures.steps in
    written-text _ c.loop-text.out.items c.extend_from_slice.new.self.items
    c.extend_from_slice-in-loop-text.new.self.items
    c.extend_from_slice-in-loop-text-2.new.self.items c.in-Some.text.now.items
    (map (λ (t : Vec ℕ Global). t.items) rest)
    (c.loop-text.invariant ∙ ap (λ (l : List (Vec ℕ Global)). c.loop-text.out.items
    ++ answers_text (map (λ (t : Vec ℕ Global). t.items) l)) more)
    c.in_ok-extend_from_slice.ensures.items
    (c.in_ok-extend_from_slice-2.ensures.items ∙ ap (λ l. c.extend_from_slice.new.self.items
    ++ l) c.as_slice.ensures.value)
    c.in_ok-extend_from_slice-3.ensures.items

pub returns : goal.returns
returns c =
    let left = c.loop-text.text-iterator in
    written-whole _ c.loop-text.out.items (map (λ (t : Vec ℕ Global). t.items) left) c.loop-text.invariant
    (ap (map (λ (t : Vec ℕ Global). t.items))
    (rest_all deref left c.next.new.self c.next.result c.in-None.is c.next.ensures.steps))
