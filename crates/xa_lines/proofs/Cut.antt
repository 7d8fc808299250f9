-- Cutting what is received into lines.
use Rattle.std.proofs.Common.{◌≡◌, ◌≤◌, ◌<◌, ℕ, ◌==◌, Bool, true, false, cond, List, [], ◌∷◌, ◌++◌, length, refl, sym}
use Rattle.std.proofs.Common.{ap, ◌∙◌, append_assoc, append-nil, nat_le, arith, length-append}
use Rattle.std.proofs.lemmas.{Bool.Decides.nat_tests, List.Elements.{All-nil, All-head, All-tail}}
use Rattle.std.{proofs.lemmas.Grind.{flat_map-append, common_steps}, specs.{Prelude.All, List.flat_map}}
use Rattle.xa_lines.specs.{Script.lines_of, Received.{Whole, TooLong, received_line, longer, is_nothing, HasNoFeed}}
use Rattle.xa_lines.specs.Received.{with_feed, IsCutIntoLines}

-- if a text is a line without a line feed, a line feed and a rest, its lines are that line and the lines of the rest
lines_of-feed : (line rest : List ℕ) → HasNoFeed line → lines_of (line ++ 10 ∷ rest) ≡ line ∷ lines_of rest
unfolding lines_of
lines_of-feed [] rest none = refl
lines_of-feed (byte ∷ line) rest none =
    let here : (byte == 10) ≡ false = All-head (λ b. (b == 10) ≡ false) byte line none in
    let more = lines_of-feed line rest (All-tail (λ b. (b == 10) ≡ false) byte line none) in
    rw (here, more) refl

-- if a text is lines, each with its line feed, and a rest, its lines are these and the lines of the rest
pub lines_of-feeds : (lines : List (List ℕ)) (rest : List ℕ) → All HasNoFeed lines
    → lines_of (flat_map with_feed lines ++ rest) ≡ lines ++ lines_of rest
lines_of-feeds [] rest none = refl
lines_of-feeds (line ∷ lines) rest none =
    let parts : flat_map with_feed (line ∷ lines) ++ rest ≡ line ++ 10 ∷ (flat_map with_feed lines ++ rest) =
    simp append_assoc in
    ap lines_of parts ∙ lines_of-feed line (flat_map with_feed lines ++ rest) (All-head HasNoFeed line lines none)
    ∙ ap (λ more. line ∷ more) (lines_of-feeds lines rest (All-tail HasNoFeed line lines none))

-- bytes of which none is a line feed are one line, which no line feed ends
lines_of-last : (byte : ℕ) (line : List ℕ) → HasNoFeed (byte ∷ line) → lines_of (byte ∷ line) ≡ (byte ∷ line) ∷ []
unfolding lines_of
lines_of-last byte [] none =
    let here : (byte == 10) ≡ false = All-head (λ b. (b == 10) ≡ false) byte [] none in
    rw here refl
lines_of-last byte (next ∷ line) none =
    let here : (byte == 10) ≡ false = All-head (λ b. (b == 10) ≡ false) byte (next ∷ line) none in
    let more = lines_of-last next line (All-tail (λ b. (b == 10) ≡ false) byte (next ∷ line) none) in
    rw (here, more) refl

-- no bytes make no line
pub lines_of-nothing : lines_of [] ≡ []
unfolding lines_of
lines_of-nothing = refl

-- nothing is cut into no lines, and none is begun
pub cut_none : IsCutIntoLines [] [] []
cut_none = record { whole = refl; each = All-nil HasNoFeed; last = All-nil (λ b. (b == 10) ≡ false) }

-- a byte that is no line feed makes the line that has begun longer
pub cut_more : (bytes : List ℕ) (lines : List (List ℕ)) (begun : List ℕ) (byte : ℕ) → (byte == 10) ≡ false
    → IsCutIntoLines bytes lines begun
    → IsCutIntoLines (bytes ++ byte ∷ []) lines (begun ++ byte ∷ [])
cut_more bytes lines begun byte other cut = grind (arith, common_steps, nat_tests, append_assoc, flat_map)

-- a line feed ends the line that has begun
pub cut_feed : (bytes : List ℕ) (lines : List (List ℕ)) (begun : List ℕ) → IsCutIntoLines bytes lines begun
    → IsCutIntoLines (bytes ++ 10 ∷ []) (lines ++ begun ∷ []) []
cut_feed bytes lines begun cut =
    grind (arith, common_steps, nat_tests, append-nil, append_assoc, flat_map, flat_map-append)

-- the lines of bytes that were cut are those cut off, and then the lines of what was begun and the rest
pub lines_of-cut : (bytes : List ℕ) (lines : List (List ℕ)) (begun rest : List ℕ) → IsCutIntoLines bytes lines begun
    → lines_of (bytes ++ rest) ≡ lines ++ lines_of (begun ++ rest)
lines_of-cut bytes lines begun rest cut = grind (arith, append_assoc, flat_map, lines_of-feeds)

-- the lines of bytes that were cut, a line feed and a rest are those cut off, the one that was begun, and the rest's
pub lines_of-cut_feed : (bytes : List ℕ) (lines : List (List ℕ)) (begun rest : List ℕ)
    → IsCutIntoLines bytes lines begun
    → lines_of (bytes ++ 10 ∷ rest) ≡ (lines ++ begun ∷ []) ++ lines_of rest
lines_of-cut_feed bytes lines begun rest cut =
    lines_of-cut bytes lines begun (10 ∷ rest) cut ∙ ap (λ xs. lines ++ xs) (lines_of-feed begun rest cut.last)
    ∙ sym (append_assoc lines (begun ∷ []) (lines_of rest))

-- a line of which nothing was received yet is kept as the empty line
pub received_line-nothing : Whole [] ≡ received_line []
unfolding received_line
received_line-nothing = refl

-- one byte more for what is kept of a line gives what is kept of the line with that byte; `b` says whether the line
-- without it has at most 65,536 bytes
longer_by : (b : Bool) (line : List ℕ) (byte : ℕ) → nat_le (length line) 65536 ≡ b
    → longer (cond b (Whole line) TooLong) byte ≡ received_line (line ++ byte ∷ [])
unfolding received_line
longer_by b line byte short = grind (arith, length-append, nat_le, nat_tests)

-- one byte more for what is kept of a line gives what is kept of the line with that byte: all of it, or that it is too
-- long
pub received_line-longer : (line : List ℕ) (byte : ℕ) → longer (received_line line) byte
    ≡ received_line (line ++ byte ∷ [])
unfolding received_line
received_line-longer line byte = longer_by (nat_le (length line) 65536) line byte refl

-- a line with a byte isn't nothing, whole or too long
something : (b : Bool) (byte : ℕ) (line : List ℕ) → is_nothing (cond b (Whole (byte ∷ line)) TooLong) ≡ false
something b byte line = grind (arith)

-- a received line with a byte isn't nothing
received_line-some : (byte : ℕ) (line : List ℕ) → is_nothing (received_line (byte ∷ line)) ≡ false
unfolding received_line
received_line-some byte line = something (nat_le (length (byte ∷ line)) 65536) byte line

-- a received line that is nothing has no byte
pub nothing_begun : (line : List ℕ) → is_nothing (received_line line) ≡ true → line ≡ []
nothing_begun [] none = refl
nothing_begun (byte ∷ line) none = let some = received_line-some byte line in cc

-- bytes without a line feed are one line, if there are any
pub lines_of-some : (line : List ℕ) → HasNoFeed line → is_nothing (received_line line) ≡ false
    → lines_of line ≡ line ∷ []
unfolding received_line
lines_of-some [] none some = cc
lines_of-some (byte ∷ line) none some = lines_of-last byte line none

-- one byte more of a line that has room for it, and isn't too long, is kept
pub put_short : (long : Bool) (line next : List ℕ) (byte : ℕ) → long ≡ false → length line < 65536
    → next ≡ line ++ byte ∷ []
    → cond long TooLong (Whole next) ≡ longer (cond long TooLong (Whole line)) byte
unfolding received_line
put_short long line next byte short room is = grind (arith, length-append, nat_le, nat_tests)

-- the byte after the greatest length, 65,536, makes the line too long
pub put_long : (long : Bool) (line : List ℕ) (byte : ℕ) → long ≡ false → 65536 ≤ length line
    → TooLong ≡ longer (cond long TooLong (Whole line)) byte
unfolding received_line
put_long long line byte short full = grind (arith, length-append, nat_le, nat_tests)
