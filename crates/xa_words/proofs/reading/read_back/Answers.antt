use Rattle.std.proofs.Common.{◌≡◌, ap, sym, ◌∙◌, arith, Some}
use Rattle.xa_words.{specs.Words.parts_of, proofs.KindTable.{within, one_statement}}
use Rattle.xa_words.proofs.Spelling.{pieces_of, parts_read, entry_by}
use Rattle.xa_words.proofs.reading.read_back.Goals as goal

pub returns-in_err-session : goal.returns-in_err-session
returns-in_err-session c entry is same =
    let p = pieces_of c.args.words.now entry same in
    let no = c.in_err-session.ensures.in_range.1
    (omega (arith, p.session, is.first_session), omega (arith, p.session, is.last_session)) in cc

pub returns-in_err-first : goal.returns-in_err-first
returns-in_err-first c entry is same =
    let p = pieces_of c.args.words.now entry same in
    let w = within entry.statement is.kind is.limits in
    absurd (c.in_err-first.ensures.none (parts_of entry.statement).first w.first (sym p.first_length) (sym p.first))

pub returns-in_err-second : goal.returns-in_err-second
returns-in_err-second c entry is same =
    let p = pieces_of c.args.words.now entry same in
    let w = within entry.statement is.kind is.limits in
    absurd (c.in_err-second.ensures.none (parts_of entry.statement).second w.second (sym p.second_length)
    (sym p.second))

pub returns-in_err-statement : goal.returns-in_err-statement
returns-in_err-statement c entry is same =
    let p = pieces_of c.args.words.now entry same in
    let w = within entry.statement is.kind is.limits in
    let parts = parts_of entry.statement in
    absurd
    (c.in_err-statement.ensures.none entry.statement is.kind is.limits
    (parts_read c.args.words.now entry same c.in_ok-first.first.items c.in_ok-second.second.items
    (c.in_ok-first.ensures.some parts.first w.first (sym p.first_length) (sym p.first))
    (c.in_ok-second.ensures.some parts.second w.second (sym p.second_length) (sym p.second))))

pub returns : goal.returns
returns c entry is same =
    let p = pieces_of c.args.words.now entry same in
    let w = within entry.statement is.kind is.limits in
    let parts = parts_of entry.statement in
    let st = c.in_ok-statement.ensures.some in
    let told =
    parts_read c.args.words.now entry same c.in_ok-first.first.items c.in_ok-second.second.items
    (c.in_ok-first.ensures.some parts.first w.first (sym p.first_length) (sym p.first))
    (c.in_ok-second.ensures.some parts.second w.second (sym p.second_length) (sym p.second)) in
    ap Some (c.entering.ensures
    ∙ entry_by (record { session = c.in_ok-session.session; statement = c.in_ok-statement.statement }) entry
    (c.in_ok-session.ensures.number ∙ p.session)
    (one_statement c.in_ok-statement.statement entry.statement st.0 is.kind (st.1 ∙ sym told)))
