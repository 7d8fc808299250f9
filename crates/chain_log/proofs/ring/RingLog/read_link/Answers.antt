use Rattle.decision_log.specs.Seats.{pass_view}
use Rattle.chain_log.proofs.Watching.{looked_for, missed, missed_later, link_there, keeps_through, check_keeps}
use Rattle.chain_log.proofs.Watching.{watch_keeps}
use Rattle.chain_log.proofs.ring.RingLog.read_link.Goals as goal

pub returns-then-check_name-name-clause-none : goal.returns-then-check_name-name-clause-none
returns-then-check_name-name-clause-none c =
    let h = pass_view c.args.seat.now in
    let l = looked_for c.args.start c.args.name c.args.place h c.requires.seen c.requires.cell c.requires.name in
    missed c.args.start c.check_name.result c.args.name c.args.place l.0 h
    (pass_view c.check_name.new.seat) c.check_name.ensures.checked l.1
    c.if-check_name-name.true

pub returns-then-check_name-name-2-clause-none : goal.returns-then-check_name-name-2-clause-none
returns-then-check_name-name-2-clause-none c =
    let h = pass_view c.args.seat.now in
    let g = pass_view c.check_name.new.seat in
    let v = pass_view c.load_word-link.new.seat in
    let l = looked_for c.args.start c.args.name c.args.place h c.requires.seen c.requires.cell c.requires.name in
    missed_later c.args.start c.check_name-2.result c.args.name c.args.place l.0 h v (pass_view c.check_name-2.new.seat)
    (keeps_through h g v (check_keeps c.args.start c.check_name.result h g c.check_name.ensures.checked)
    (watch_keeps g v c.load_word-link.ensures.read.1))
    c.check_name-2.ensures.checked l.1
    c.if-check_name-name-2.true

pub returns-clause-some : goal.returns-clause-some
returns-clause-some c =
    let h = pass_view c.args.seat.now in
    let l = looked_for c.args.start c.args.name c.args.place h c.requires.seen c.requires.cell c.requires.name in
    link_there c.args.start c.check_name.result c.check_name-2.result c.args.name c.args.place c.load_word-link.result
    l.0 h
    (pass_view c.check_name.new.seat) (pass_view c.load_word-link.new.seat)
    (pass_view c.check_name-2.new.seat) l.1 c.check_name.ensures.checked
    c.if-check_name-name.false c.load_word-link.ensures.read c.check_name-2.ensures.checked c.if-check_name-name-2.false
