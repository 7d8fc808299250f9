use Rattle.std.proofs.Common.{ap, ◌∙◌}
use Rattle.xa_words.specs.Entry.{may_be_entry}
use Rattle.xa_session.proofs.Entering.{entering_makes_entry}
use Rattle.xa_session.proofs.replica.Replica.add.Goals as goal

pub entering-entry-requires : goal.entering-entry-requires
entering-entry-requires g c =
    ap may_be_entry c.copy.ensures ∙ entering_makes_entry c.args.self.now.server c.args.session c.args.statement.now
    c.requires.enters
