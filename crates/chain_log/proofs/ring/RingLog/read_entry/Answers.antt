use Rattle.std.{proofs.Common.{◌≡◌, ◌+◌, ◌≤◌, sym, subst, Some}, specs.Prelude.{slice_get, Option, IfSome, IfNone}}
use Rattle.xa_words.specs.Entry.{Entry}
use Rattle.decision_log.specs.Seats.{pass_view}
use Rattle.chain_log.{specs.{Places.rows_of, RingRule.least}, proofs.Watching.{looked_for, missed, missed_later}}
use Rattle.chain_log.proofs.Watching.{won_between, keeps_through, check_keeps, watch_keeps}
use Rattle.chain_log.proofs.ring.RingLog.read_entry.Goals as goal

pub returns-then-check_name-name-clause-none : goal.returns-then-check_name-name-clause-none
returns-then-check_name-name-clause-none c =
    let h = pass_view c.args.seat.now in
    let l = looked_for c.args.start c.args.name c.args.place h c.requires.seen c.requires.cell c.requires.name in
    missed c.args.start c.check_name.result c.args.name c.args.place l.0 h
    (pass_view c.check_name.new.seat) c.check_name.ensures.checked l.1
    c.if-check_name-name.true

pub returns-then-check_name-name-2-clause-none : goal.returns-then-check_name-name-2-clause-none
returns-then-check_name-name-2-clause-none c =
    let h = pass_view c.args.seat.now in
    let g = pass_view c.check_name.new.seat in
    let v = pass_view c.read_cell-words.new.seat in
    let l = looked_for c.args.start c.args.name c.args.place h c.requires.seen c.requires.cell c.requires.name in
    missed_later c.args.start c.check_name-2.result c.args.name c.args.place l.0 h v (pass_view c.check_name-2.new.seat)
    (keeps_through h g v (check_keeps c.args.start c.check_name.result h g c.check_name.ensures.checked)
    (watch_keeps g v c.read_cell-words.ensures.keeps))
    c.check_name-2.ensures.checked l.1
    c.if-check_name-name-2.true

pub returns-clause-some : goal.returns-clause-some
returns-clause-some c =
    let h = pass_view c.args.seat.now in
    let l = looked_for c.args.start c.args.name c.args.place h c.requires.seen c.requires.cell c.requires.name in
    let b =
    won_between c.args.start c.check_name.result c.check_name-2.result c.args.name c.args.place l.0 h
    (pass_view c.check_name.new.seat)
    (pass_view c.read_cell-words.new.seat) (pass_view c.check_name-2.new.seat) l.1 c.check_name.ensures.checked
    c.if-check_name-name.false
    c.read_cell-words.ensures.keeps c.check_name-2.ensures.checked c.if-check_name-name-2.false in
    let told = c.read_cell-words.ensures.read c.args.place l.0 b.0 b.1 in
    subst (λ (result : Option Entry). IfSome result (λ entry. slice_get h.known.seen c.args.place ≡ Some entry))
    (sym (c.read_back.ensures l.0 told.0 told.1))
    l.1.seen

pub returns-clause-none : goal.returns-clause-none
returns-clause-none c =
    let h = pass_view c.args.seat.now in
    let l = looked_for c.args.start c.args.name c.args.place h c.requires.seen c.requires.cell c.requires.name in
    let b =
    won_between c.args.start c.check_name.result c.check_name-2.result c.args.name c.args.place l.0 h
    (pass_view c.check_name.new.seat)
    (pass_view c.read_cell-words.new.seat) (pass_view c.check_name-2.new.seat) l.1 c.check_name.ensures.checked
    c.if-check_name-name.false
    c.read_cell-words.ensures.keeps c.check_name-2.ensures.checked c.if-check_name-name-2.false in
    let told = c.read_cell-words.ensures.read c.args.place l.0 b.0 b.1 in
    subst (λ (result : Option Entry). IfNone result (c.args.place + rows_of h.capacity ≤ least
    (pass_view c.check_name-2.new.seat)))
    (sym (c.read_back.ensures l.0 told.0 told.1))
    tt
