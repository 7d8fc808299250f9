use Rattle.std.proofs.Common.{rules}
use Rattle.xa_store.proofs.racing.count_speakers.Goals as goal

pub returns : goal.returns
returns c = search rules
