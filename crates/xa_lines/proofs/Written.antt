-- What was read, and what was written.
use Rattle.std.proofs.Common.{◌≡◌, ℕ, ◌+◌, ◌-◌, ◌<◌, ◌≤◌, ◌∙◌, Option, Some, None, List, [], ◌++◌, append-nil, length}
use Rattle.std.proofs.{Common.{take, drop, arith, length-append, sym, subst}, lemmas.List.{length-take, take_rest}}
use Rattle.std.{proofs.{Math.Seq.take-add, KnownBytes.Appends-trans}, specs.Io.KnownBytes.{Appends, Keeps}}

-- if a text and so many bytes of a piece are together longer than is allowed, so is the text with those bytes at its
-- end
pub length-piece : (most : ℕ) (script piece : List ℕ) (count : ℕ) → most < length script + count → count ≤ length piece
    → most < length (script ++ take count piece)
length-piece most script piece count long within = grind (arith, length-append, length-take)

-- if the first bytes of a text were written, and then some of those behind them, all of these were written as one part
pub Appends-more : (first second third : Option (List ℕ)) (bytes : List ℕ) (written count : ℕ)
    → Appends first second (take written bytes)
    → Appends second third (take count (take (length bytes - written) (drop written bytes)))
    → Appends first third (take (written + count) bytes)
Appends-more first second third bytes written count before now =
    let P : List ℕ → Type 0 = λ piece. Appends second third (take count piece) in
    let rest = subst P (take_rest bytes written) now in
    let Q : List ℕ → Type 0 = λ piece. Appends first third piece in
    subst Q (sym (take-add written count bytes)) (Appends-trans first second third (take written bytes)
    (take count (drop written bytes)) before rest)

-- appending nothing keeps what was written
kept_by_nothing : (old new : Option (List ℕ)) → Appends old new [] → Keeps old new
kept_by_nothing old new taken = grind (arith, append-nil)

-- a write that took no byte keeps what was written
pub Keeps-nothing : (old new : Option (List ℕ)) (count : ℕ) (bytes : List ℕ) → count ≡ 0
    → Appends old new (take count bytes) → Keeps old new
Keeps-nothing old new count bytes none taken =
    let P : ℕ → Type 0 = λ n. Appends old new (take n bytes) in kept_by_nothing old new (subst P none taken)

-- keeping what was written is appending nothing
pub Appends-nothing : (old new : Option (List ℕ)) → Keeps old new → Appends old new []
Appends-nothing None new kept = tt
Appends-nothing (Some old) None kept = absurd kept
Appends-nothing (Some old) (Some new) kept = kept ∙ sym (append-nil old)
