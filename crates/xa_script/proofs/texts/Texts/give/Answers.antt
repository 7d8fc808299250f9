use Rattle.std.proofs.Common.{◌∙◌, ap, drop}
use Rattle.xa_script.{proofs.Owed.{known_kept, kept_on}, specs.Owing.sent_of}
use Rattle.xa_script.proofs.texts.Texts.give.Goals as goal

pub returns-in_err-give_some-clause-kept : goal.returns-in_err-give_some-clause-kept
returns-in_err-give_some-clause-kept g c =
    let contents = g.W.Write.contents in
    let old = c.args.self.now in
    let new = c.give_some.new.self in
    known_kept (contents old.inner) (contents new.inner) (drop old.given old.due.items)
    (drop new.given new.due.items) old.held.items new.held.items
    (kept_on (sent_of contents old) (sent_of contents c.loop-self.self)
    (sent_of contents new) c.loop-self.invariant.sent c.give_some.ensures.sent)
    (ap (λ room. room.items) (c.give_some.ensures.held ∙ c.loop-self.invariant.held))
