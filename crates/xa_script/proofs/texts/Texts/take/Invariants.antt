use Rattle.std.proofs.Common.{◌≡◌, ◌<◌, ◌≤◌, ◌-◌, ◌++◌, ℕ, false, length, take}
use Rattle.xa_script.specs.TextLines.{ends_line}
use Rattle.xa_script.proofs.texts.Texts.take.Given as goal

abbrev pub invariant-loop-taken : goal.invariant-loop-taken
invariant-loop-taken g l = record {
  within : l.taken ≤ length l.bytes;
  given : l.self.given ≡ l.fn.self.given;
  due : l.self.due ≡ l.fn.self.due;
  inner : l.self.inner ≡ l.fn.self.inner;
  passes : l.self.passes ≡ false;
  form : l.self.form ≡ l.fn.self.form;
  rows : l.self.rows ≡ l.fn.self.rows;
  begun : (count : ℕ) → 0 < count → count ≤ l.taken
      → ends_line l.fn.self.rows (l.fn.self.held.items ++ take count l.bytes) ≡ false;
  held : l.self.held.items ≡ l.fn.self.held.items ++ take l.taken l.bytes;
}

abbrev pub decreases-loop-taken : goal.decreases-loop-taken
decreases-loop-taken g l = length l.bytes - l.taken
