-- What sessions call for, as the lines of a record tell, begins with no blank and has no line feed.
use Rattle.std.proofs.Common.{◌≡◌, ℕ, zero, suc, ◌==◌, true, false, Bool, not, cond, if◌then◌else◌, Option, Some, None}
use Rattle.std.proofs.Common.{Ok, Err, List, [], ◌∷◌, ◌++◌, reverse, drop, codes, refl, ap, sym, ◌∙◌, subst}
use Rattle.std.{proofs.lemmas.List.reverse-append, specs.Prelude.{bytes_eq, nat_lt}}
use Rattle.std.specs.List.{AllByRecursion as All, list_all, prefix_len}
use Rattle.xa_xid.specs.{Bytes.{belongs, behind, unblank}, Literal.{Reading, literal_ahead}, Xid.Text}
use Rattle.xa_xid.specs.declared.byte_class.ByteClass.TheVariants.{Blank as BlankByte}
use Rattle.xa_lines.specs.Script.{lines_of, with_first, Line, Blank, line_of, first_word, after_word, behind_word}
use Rattle.xa_lines.specs.Script.{is_no_blank, is_empty_line, line_given, session_named, filled_line, number_of_word}
use Rattle.xa_record.specs.Lines.{ShowsOk, ShowsValue, Calls, Returns, ReturnsUnknown, Leaves, LineSaid, Nothing, Bad}
use Rattle.xa_record.specs.Lines.{Says, Awaits, Closed, is_silent, trimmed, alone, value_said, rows_said, error_said}
use Rattle.xa_record.specs.Lines.{return_said, loss_said, session_said, filled_said, reading_of_line}
use Rattle.xa_record.specs.{Rows.leading_number, Reading.{NumberedEvent, notes_by}, Records.{Tells, no_line}}
use Rattle.xa_record.specs.Records.{silent_line, call_line, return_line, rows_lines, unknown_line, lost_line, gone_line}
use Rattle.xa_record.specs.{Records.on_next_line, Replaying.{HasNoFeed, IsBare, IsBareTold, AreBare}}
use Rattle.xa_record.proofs.{Feeds.{both, both_first, both_second, feed-append}, RecordLines.text-tells}

-- the first byte of a text that has no line feed isn't one
first_of : (byte : ℕ) (text : List ℕ) → HasNoFeed (byte ∷ text) → not (byte == 10) ≡ true
first_of byte text free = both_first (not (byte == 10)) (list_all (λ b. not (b == 10)) text) free

-- if a text has no line feed, the bytes after its first have none either
rest_of : (byte : ℕ) (text : List ℕ) → HasNoFeed (byte ∷ text) → HasNoFeed text
rest_of byte text free = both_second (not (byte == 10)) (list_all (λ b. not (b == 10)) text) free

-- a text without a line feed has none from a place on
feed-drop : (count : ℕ) (text : List ℕ) → HasNoFeed text → HasNoFeed (drop count text)
feed-drop zero text free = free
feed-drop (suc count) [] free = refl
feed-drop (suc count) (byte ∷ text) free = feed-drop count text (rest_of byte text free)

-- a text without a line feed has none after its leading blanks
feed-unblank : (text : List ℕ) → HasNoFeed text → HasNoFeed (unblank text)
unfolding behind
feed-unblank [] free = refl
feed-unblank (byte ∷ text) free = by (belongs BlankByte byte) (feed-unblank text (rest_of byte text free))
  where
    by : (b : Bool) → HasNoFeed (behind (belongs BlankByte) text)
        → HasNoFeed (if b then behind (belongs BlankByte) text else byte ∷ text)
    by true later = later
    by false later = free

-- a text without a line feed has none backwards
feed-reverse : (text : List ℕ) → HasNoFeed text → HasNoFeed (reverse text)
feed-reverse [] free = refl
feed-reverse (byte ∷ text) free =
    subst HasNoFeed (sym (reverse-append (byte ∷ []) text))
    (feed-append (reverse text) (byte ∷ []) (feed-reverse text (rest_of byte text free))
    (both _ _ (first_of byte text free) refl))

-- taking the leading blanks off a text leaves its last byte, if that is no blank
unblank_end : (text : List ℕ) (byte : ℕ) → belongs BlankByte byte ≡ false
    → unblank (text ++ byte ∷ []) ≡ unblank text ++ byte ∷ []
unfolding behind
unblank_end [] byte full = rw full refl
unblank_end (first ∷ text) byte full = by (belongs BlankByte first) (unblank_end text byte full)
  where
    by : (b : Bool) → behind (belongs BlankByte) (text ++ byte ∷ []) ≡ behind (belongs BlankByte) text ++ byte ∷ []
        → (if b then behind (belongs BlankByte) (text ++ byte ∷ []) else first ∷ (text ++ byte ∷ []))
        ≡ (if b then behind (belongs BlankByte) text else first ∷ text) ++ byte ∷ []
    by true later = later
    by false later = refl

-- what is left after the leading blanks begins with no blank
begins_full : (text : List ℕ) (byte : ℕ) (more : List ℕ) → unblank text ≡ byte ∷ more → belongs BlankByte byte ≡ false
unfolding behind
begins_full [] byte more is = absurd (cc)
begins_full (first ∷ text) byte more is = by (belongs BlankByte first) refl (begins_full text byte more) is
  where
    by : (b : Bool) → belongs BlankByte first ≡ b → (unblank text ≡ byte ∷ more → belongs BlankByte byte ≡ false)
        → (if b then behind (belongs BlankByte) text else first ∷ text) ≡ byte ∷ more → belongs BlankByte byte ≡ false
    by true blank later same = later same
    by false full later same = let alike : first ≡ byte = cc in
        subst (λ (n : ℕ). belongs BlankByte n ≡ false) alike full

-- trimming the end of a text that begins with no blank leaves its first byte, and trims the end of what follows it
trimmed_begins : (byte : ℕ) (more : List ℕ) → belongs BlankByte byte ≡ false
    → trimmed (byte ∷ more) ≡ byte ∷ reverse (unblank (reverse more))
unfolding trimmed
trimmed_begins byte more full =
    ap (λ (l : List ℕ). reverse (unblank l)) (reverse-append (byte ∷ []) more)
    ∙ ap reverse (unblank_end (reverse more) byte full)
    ∙ reverse-append (unblank (reverse more)) (byte ∷ [])

-- a text that begins with no blank has no leading blanks to drop
stands_full : (byte : ℕ) (more : List ℕ) → belongs BlankByte byte ≡ false → unblank (byte ∷ more) ≡ byte ∷ more
unfolding behind
stands_full byte more full = rw full refl

-- a text without leading blanks has none after its end is trimmed
bare_where : (text : List ℕ) → ((byte : ℕ) (more : List ℕ) → text ≡ byte ∷ more → belongs BlankByte byte ≡ false)
    → unblank (trimmed text) ≡ trimmed text
unfolding trimmed behind
bare_where [] full = refl
bare_where (byte ∷ more) full =
    let is : belongs BlankByte byte ≡ false = full byte more refl in
    let shape : trimmed (byte ∷ more) ≡ byte ∷ reverse (unblank (reverse more)) = trimmed_begins byte more is in
    ap unblank shape ∙ stands_full byte (reverse (unblank (reverse more))) is ∙ sym shape

-- trimming the end of a text without a line feed makes none
feed-trimmed : (text : List ℕ) → HasNoFeed text → HasNoFeed (trimmed text)
unfolding trimmed
feed-trimmed text free = feed-reverse (unblank (reverse text)) (feed-unblank (reverse text) (feed-reverse text free))

-- a text without a line feed is bare once its blanks at both ends are taken off: no leading blank, no line feed
trimmed_bare : (text : List ℕ) → HasNoFeed text → IsBare (trimmed (unblank text))
trimmed_bare text free = record {
  bare = bare_where (unblank text) (λ byte more is. begins_full text byte more is);
  whole = feed-trimmed (unblank text) (feed-unblank text free);
}

-- if a line says that a session calls for a text, that text is bare: no leading blank, no line feed
abbrev CallsBare : LineSaid → Type 0
CallsBare (Says (Calls session text)) = IsBare text
CallsBare said = Unit {0}

-- of two readings of a line a test takes one: if each calls for a bare text or for none, the one taken does
either : (b : Bool) (one two : LineSaid) → CallsBare one → CallsBare two → CallsBare (if b then one else two)
either true one two first second = first
either false one two first second = second

-- if what a line says calls for a bare text or for none, it still does where it is said only if no text follows
-- (`alone`)
alone_bare : (said : LineSaid) (text : List ℕ) → CallsBare said → CallsBare (alone said text)
alone_bare said [] is = is
alone_bare said (byte ∷ text) is = tt

-- a line with a returned value calls for no text
value_bare : (session : ℕ) (reading : Reading Text) → CallsBare (value_said session reading)
value_bare session (Ok (value, rest)) = alone_bare (Says (Returns session (ShowsValue (Some value)))) (unblank rest) tt
value_bare session (Err fault) = tt

-- a line with the number of returned rows calls for no text
rows_bare : (session : ℕ) (count : Option ℕ) (rest : List ℕ) → CallsBare (rows_said session count rest)
rows_bare session None rest = tt
rows_bare session (Some count) rest = alone_bare (Awaits session count) rest tt

-- a line with a returned refusal calls for no text
error_bare : (session : ℕ) (number : Option ℕ) → CallsBare (error_said session number)
error_bare session None = tt
error_bare session (Some number) = either (nat_lt number 65536) _ Bad tt tt

-- a line of a return, of any kind, calls for no text
return_bare : (session : ℕ) (word text : List ℕ) → CallsBare (return_said session word text)
unfolding return_said
return_bare session word text =
    either (bytes_eq word (codes "OK")) _ _ (alone_bare (Says (Returns session ShowsOk)) text tt)
    (either (bytes_eq word (codes "NONE")) _ _ (alone_bare (Says (Returns session (ShowsValue None))) text tt)
    (either (bytes_eq word (codes "VALUE")) _ _ (value_bare session (literal_ahead text))
    (either (bytes_eq word (codes "ROWS")) _ _ (rows_bare session (number_of_word (first_word text)) (behind_word text))
    (either (bytes_eq word (codes "ERROR")) _ Bad (error_bare session (leading_number text)) tt))))

-- a line of a client that is lost, or that found its connection closed, calls for no text
loss_bare : (session : ℕ) (word text : List ℕ) → CallsBare (loss_said session word text)
unfolding loss_said
loss_bare session word text =
    either (bytes_eq word (codes "LOST")) _ _ (alone_bare (Says (Leaves session)) text tt)
    (either (bytes_eq word (codes "GONE")) _ Bad (alone_bare (Closed session) text tt) tt)

-- what follows a session's number calls for a bare text at most, if it has no line feed
given_bare : (session : ℕ) (text : List ℕ) → HasNoFeed text
    → CallsBare (session_said session (first_word text) (behind_word text))
unfolding session_said
given_bare session text free =
    let sign = first_word text in
    let rest = behind_word text in
    either (bytes_eq sign (codes ">")) _ _ (trimmed_bare (after_word text)
    (feed-drop (prefix_len is_no_blank text) text free))
    (either (bytes_eq sign (codes "<")) _ _ (return_bare session (first_word rest) (behind_word rest))
    (either (bytes_eq sign (codes "?")) _ _ (either (bytes_eq (first_word rest) (codes "ERROR"))
    (Says (ReturnsUnknown session)) Bad tt tt)
    (either (bytes_eq sign (codes "!")) _ Bad (loss_bare session (first_word rest) (behind_word rest)) tt)))

-- a text without a line feed, behind the session that the line names, if any: what the line calls for is bare
named_bare : (session : Option ℕ) (text : List ℕ) → HasNoFeed text → CallsBare (filled_said (line_given session text))
named_bare None text free = tt
named_bare (Some session) text free = given_bare session text free

-- of two lines a test takes one: if each calls for a bare text or for none, the one taken does
said_bare : (b : Bool) (one two : Line) → CallsBare (filled_said one) → CallsBare (filled_said two)
    → CallsBare (filled_said (cond b one two))
said_bare true one two first second = first
said_bare false one two first second = second

-- whatever a line without a line feed calls for is bare
line_bare : (line : List ℕ) → HasNoFeed line → CallsBare (reading_of_line line)
unfolding reading_of_line line_of
line_bare line free =
    let text = unblank line in
    let whole : HasNoFeed text = feed-unblank line free in
    either (is_silent line) Nothing _ tt
    (said_bare (is_empty_line text) Blank (filled_line text) tt
    (named_bare (session_named (first_word text)) (behind_word text)
    (feed-unblank (after_word text) (feed-drop (prefix_len is_no_blank text) text whole))))

-- what holds of each element of two lists holds of each of both together
All-append : {A : Type 0} (P : A → Type 0) (xs ys : List A) → All P xs → All P ys → All P (xs ++ ys)
All-append P [] ys first second = second
All-append P (x ∷ xs) ys first second = (first.0, All-append P xs ys first.1 second)

-- what holds of each element of two lists together holds of each of either
All-parts : {A : Type 0} (P : A → Type 0) (xs ys : List A) → All P (xs ++ ys) → All P xs × All P ys
All-parts P [] ys all = (tt, all)
All-parts P (x ∷ xs) ys all = let parts = All-parts P xs ys all.1 in ((all.0, parts.0), parts.1)

-- the texts that lines without a line feed call for are bare, each of them
tells-bare : (lines : List (List ℕ)) (list : List NumberedEvent) → Tells lines list → All HasNoFeed lines → AreBare list
tells-bare lines list no_line free = tt
tells-bare lines list (silent_line before line same tells is) free =
    tells-bare before same tells (All-parts HasNoFeed before (line ∷ []) free).0
tells-bare lines list (call_line before line old session text tells is fits) free =
    let parts = All-parts HasNoFeed before (line ∷ []) free in
    All-append (λ one. IsBareTold one.told) old (on_next_line before (Calls session text) ∷ [])
    (tells-bare before old tells parts.0)
    (subst CallsBare is (line_bare line parts.1.0), tt)
tells-bare lines list (return_line before line old session shown tells is fits) free =
    All-append (λ one. IsBareTold one.told) old _ (tells-bare before old tells
    (All-parts HasNoFeed before (line ∷ []) free).0) (tt, tt)
tells-bare lines list (rows_lines before line more old session count rows tells is came fits) free =
    All-append (λ one. IsBareTold one.told) old _ (tells-bare before old tells
    (All-parts HasNoFeed before (line ∷ more) free).0) (tt, tt)
tells-bare lines list (unknown_line before line old session tells is fits) free =
    All-append (λ one. IsBareTold one.told) old _ (tells-bare before old tells
    (All-parts HasNoFeed before (line ∷ []) free).0) (tt, tt)
tells-bare lines list (lost_line before line old session tells is fits) free =
    All-append (λ one. IsBareTold one.told) old _ (tells-bare before old tells
    (All-parts HasNoFeed before (line ∷ []) free).0) (tt, tt)
tells-bare lines list (gone_line before line front back session tells is ends_so last fits) free =
    let all = All-parts (λ (one : NumberedEvent). IsBareTold one.told) front back
    (tells-bare before (front ++ back) tells (All-parts HasNoFeed before (line ∷ []) free).0) in
    All-append (λ one. IsBareTold one.told) front (on_next_line before (Leaves session) ∷ back) all.0 (tt, all.1)

-- a byte that is no line feed, put before the first line, leaves all lines without line feeds
first-feed : (byte : ℕ) (lines : List (List ℕ)) → (byte == 10) ≡ false → All HasNoFeed lines
    → All HasNoFeed (with_first byte lines)
first-feed byte [] apart free = (both _ _ (ap not apart) refl, tt)
first-feed byte (line ∷ lines) apart free = (both _ _ (ap not apart) free.0, free.1)

-- the lines of a text have no line feed
lines-feed : (text : List ℕ) → All HasNoFeed (lines_of text)
unfolding lines_of
lines-feed [] = tt
lines-feed (byte ∷ bytes) = by (byte == 10) refl (lines-feed bytes)
  where
    by : (b : Bool) → (byte == 10) ≡ b → All HasNoFeed (lines_of bytes)
        → All HasNoFeed (cond b ([] ∷ lines_of bytes) (with_first byte (lines_of bytes)))
    by true is later = (refl, later)
    by false is later = first-feed byte (lines_of bytes) is later

-- if no line of a record is faulty, each text that its sessions call for is bare
pub notes-bare : (strict : Bool) (text : List ℕ) → (notes_by strict text).faults ≡ []
    → AreBare (notes_by strict text).told
notes-bare strict text clean =
    tells-bare (lines_of text) (notes_by strict text).told (text-tells strict text clean) (lines-feed text)
