use Rattle.xa_server.specs.State.{no_state}
use Rattle.xa_lines.{specs.Script.lines_of, proofs.Told.served_text-short}
use Rattle.xa_lines.proofs.laws.what_is_served_is_the_transcript.Goals as goal

pub returns : goal.returns
returns c received short = served_text-short no_state (lines_of received) short
