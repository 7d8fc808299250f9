use Rattle.std.proofs.Common.{◌≡◌, ◌++◌, length}
use Rattle.xa_lines.specs.{Script.lines_of, Objects.parts_tokens}
use Rattle.xa_lines.proofs.json_parts.write_parts.Given as goal

abbrev pub invariant-loop-parts : goal.invariant-loop-parts
invariant-loop-parts l = record {
  tokens : l.fn.writer.tokens ++ parts_tokens (lines_of l.form) l.line ≡ l.writer.tokens ++ parts_tokens (lines_of
      l.parts) l.text;
  before : l.writer.before ≡ l.fn.writer.before;
}

abbrev pub decreases-loop-parts : goal.decreases-loop-parts
decreases-loop-parts l = length l.parts
