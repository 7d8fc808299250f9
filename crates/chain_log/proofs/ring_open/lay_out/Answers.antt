use Rattle.std.proofs.{Common.{◌≡◌, ◌+◌, ℕ, get_or, ap, sym, ◌∙◌, refl, arith, rules}, lemmas.List.get_or-replicate}
use Rattle.decision_log.specs.declared.sizes.Sizes.{Sizes}
use Rattle.chain_log.{specs.Places.{most, rows_of, word_count}, proofs.{Turns.rows_most, RingSeats.opens}}
use Rattle.chain_log.proofs.ring_open.lay_out.Goals as goal

pub of_words-requires-clause-rule : goal.of_words-requires-clause-rule
of_words-requires-clause-rule c =
    let columns : ℕ = c.args.sessions + c.args.spares in
    let sizes : Sizes = record { sessions = columns; capacity = most + c.args.rows } in
    let rows : rows_of (most + c.args.rows) ≡ c.args.rows = rows_most c.args.rows in
    (opens sizes c.count_words.result (omega (arith, rows, c.requires.rows.0))
    (c.count_words.ensures ∙ ap (word_count columns) (sym rows))).zeros c.deref.result.now (search rules)
    (ap (λ items. get_or items 0 0) (c.deref.ensures.value
    ∙ c.in_ok-words.ensures.items_if_clones_equal (λ y same. same))
    ∙ get_or-replicate c.count_words.result 0 0 0 (omega (arith, c.count_words.ensures)))

pub invariant_of-log : goal.invariant_of-log
invariant_of-log c = record {
  wide = search rules;
  sizes = search rules;
  turns = sym (rows_most c.args.rows);
  room = refl;
  low = (c.requires.sessions.0, c.requires.rows.0);
  high = (c.requires.sessions.1, c.requires.rows.1);
  spares = (omega arith, omega (arith, c.requires.sessions.1, c.requires.spares));
}
