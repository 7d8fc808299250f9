-- What a line is answered.
use Rattle.std.specs.Prelude.{ℕ, ◌+◌, ◌≤◌, List, vec_len, vec_capacity}
use Rattle.arrayvec.specs.ArrayVec.{array_vec_len}
use Rattle.xa_lines.specs.declared.answer.Answer.{Answer, TheVariants.{Text, Short}}

-- the bytes of an answer
abbrev pub bytes_of : Answer → List ℕ
bytes_of (Text text) = text.items
bytes_of (Short text) = text.items

-- so many bytes more can be appended to the answer without memory
abbrev pub HasRoom : ℕ → Answer → Type 0
HasRoom spare (Text text) = vec_len text + spare ≤ vec_capacity text
HasRoom spare (Short text) = array_vec_len text + spare ≤ 160
