use Rattle.std.proofs.{Common.{get_or, ◌∷◌, [], ap, inl, inr}, Math.Nat.le_refl, lemmas.List.drop_all}
use Rattle.xa_xid.{specs.{Literal.text_literal_of, Quoted.escaped, declared.quoted.Mode.Mode}, proofs.Reading.read_none}
use Rattle.xa_xid.proofs.Reading.{read_mark, read_more, read_closed, read_ended, read_plain_end, read_escape_end}
use Rattle.xa_xid.proofs.Reading.{plain_quote, plain_backslash, plain_byte, escape_letter, quote_again}
use Rattle.xa_xid.proofs.quoted.text_literal.Goals.{in-Plain+then-byte-quote, in-Plain+else-byte-quote+then-byte-eq92}
use Rattle.xa_xid.proofs.quoted.text_literal.Goals.{in-Plain+else-byte-quote+else-byte-eq92, in-Escape}
use Rattle.xa_xid.proofs.quoted.text_literal.Goals.{in-Quote+else-byte-quote-2}
use Rattle.xa_xid.proofs.quoted.text_literal.Goals as goal

pub loop-i-init : goal.loop-i-init
loop-i-init c = read_none c.args.quote c.args.body.now c.new-kept.result.bytes c.new-kept.ensures

pub loop-i-preserved : goal.loop-i-preserved
loop-i-preserved c =
    let quote = c.args.quote in
    let body = c.args.body.now in
    let place = c.loop-i.i in
    let byte = get_or body place 0 in
    elim c.match-mode.branch [
      | in-Plain+then-byte-quote w ↦
          rw (w.mode-is, w.kept-is)
          (read_mark quote body Mode.Plain Mode.Quote _ place c.loop-i-test.true
          (λ rest. plain_quote quote byte rest w.if-byte-quote.true)
          (rw w.in-Plain.is at c.loop-i.invariant))
      | in-Plain+else-byte-quote+then-byte-eq92 w ↦
          rw (w.mode-is, w.kept-is)
          (read_mark quote body Mode.Plain Mode.Escape _ place c.loop-i-test.true
          (λ rest. plain_backslash quote byte rest w.if-byte-quote.false w.if-byte-eq92.true)
          (rw w.in-Plain.is at c.loop-i.invariant))
      | in-Plain+else-byte-quote+else-byte-eq92 w ↦
          rw (w.mode-is, w.in-Plain.is, w.kept-is)
          (read_more quote body Mode.Plain Mode.Plain _ _ place (byte ∷ []) c.loop-i-test.true
          (λ rest. plain_byte quote byte rest w.if-byte-quote.false w.if-byte-eq92.false) w.add.ensures
          (rw w.in-Plain.is at c.loop-i.invariant))
      | in-Escape w ↦
          rw (w.mode-is, w.kept-is)
          (read_more quote body Mode.Escape Mode.Plain _ _ place (escaped byte) c.loop-i-test.true
          (λ rest. escape_letter quote byte rest) w.add_escaped.ensures
          (rw w.in-Escape.is at c.loop-i.invariant))
      | in-Quote+else-byte-quote-2 w ↦
          rw (w.mode-is, w.kept-is)
          (read_more quote body Mode.Quote Mode.Plain _ _ place (quote ∷ []) c.loop-i-test.true
          (λ rest. quote_again quote byte rest w.if-byte-quote-2.false) w.add-in-Quote.ensures
          (rw w.in-Quote.is at c.loop-i.invariant))
    ]

pub returns-then-byte-quote-2-clause-value : goal.returns-then-byte-quote-2-clause-value
returns-then-byte-quote-2-clause-value c =
    rw (read_closed c.args.quote c.args.body.now c.loop-i.kept.bytes c.loop-i.i c.loop-i-test.true
    c.if-byte-quote-2.true
    (rw c.in-Quote.is at c.loop-i.invariant))
    (rw c.text_from.ensures at c.end.ensures.value)

pub returns-in-Quote-mode-clause-value : goal.returns-in-Quote-mode-clause-value
returns-in-Quote-mode-clause-value c =
    rw (read_ended c.args.quote c.args.body.now c.loop-i.kept.bytes c.loop-i.i c.loop-i-test.false
    (rw c.in-Quote-mode.is at c.loop-i.invariant))
    (rw (c.text_from-in-Quote-mode.ensures, drop_all _ c.args.body.now (le_refl _)) at
    c.end-in-Quote-mode.ensures.value)

pub returns-in-Plain-mode : goal.returns-in-Plain-mode
returns-in-Plain-mode c =
    let quote = c.args.quote in
    let body = c.args.body.now in
    let place = c.loop-i.i in
    elim c.in-Plain-mode.is [
      | inl e ↦ record {
        value = ap text_literal_of (read_plain_end quote body _ place c.loop-i-test.false
            (rw e at c.loop-i.invariant));
        within = tt;
      }
      | inr e ↦ record {
        value = ap text_literal_of (read_escape_end quote body _ place c.loop-i-test.false
            (rw e at c.loop-i.invariant));
        within = tt;
      }
    ]
