use Rattle.xa_script.proofs.TextsRead.{quoted_at, word_read}
use Rattle.xa_script.proofs.laws.texts_are_read_back.Goals as goal

pub returns-clause-spelled : goal.returns-clause-spelled
returns-clause-spelled c bytes rest last = quoted_at bytes rest last

pub returns-clause-word : goal.returns-clause-word
returns-clause-word c word text is =
    let read = c.literals_are_read_as_spelled.ensures in
    word_read word text (read.sound word text _ is).1 read.complete is
