use Rattle.std.proofs.Common.{◌≡◌, length}
use Rattle.xa_lines.specs.{Script.lines_of, Objects.parts_fit}
use Rattle.xa_lines.proofs.json_fitting.fits.Given as goal

abbrev pub invariant-loop-parts : goal.invariant-loop-parts
invariant-loop-parts l = parts_fit (lines_of l.form) l.line ≡ parts_fit (lines_of l.parts) l.text

abbrev pub decreases-loop-parts : goal.decreases-loop-parts
decreases-loop-parts l = length l.parts
