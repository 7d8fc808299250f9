-- The line of an effect, read back.
use Rattle.std.proofs.Common.{◌≡◌, ◌≢◌, ℕ, zero, suc, Result, Ok, List, [], ◌∷◌, ◌++◌, codes, decimal, refl, ap, sym}
use Rattle.std.proofs.{Common.{◌∙◌, subst, ◌<◌, ◌≤◌, ◌^◌, arith, lit<, lit≤}, lemmas.Fmt.{decimal_digit, decimal_step}}
use Rattle.xa_xid.specs.{Bytes.{belongs, behind, unblank}, declared.statement.Statement.Statement}
use Rattle.xa_statement.{specs.{Canonical.statement_text, Grammar.Spells, Reading.read_of}, proofs.Faults.reads_spelled}
use Rattle.xa_lines.specs.Script.{Given, line_of}
use Rattle.xa_judge.specs.Explained.{IsSession}
use Rattle.xa_record.specs.{Events.{request_read, request_called}, VerdictText.{call_text, text_read, canonical_text}}
use Rattle.xa_record.specs.Replaying.{HasNoFeed, IsWrittenBack, IsWellCalled}
use Rattle.xa_record.proofs.Feeds.{feed-append, decimal_feed}

-- a session's number, a blank and a text that begins with none are a line of that session
pub line_back : (session : ℕ) → IsSession session → (text : List ℕ) → unblank text ≡ text
    → line_of (decimal session ++ codes " " ++ text) ≡ Given session text
unfolding line_of behind belongs
line_back zero is text bare = absurd (omega (arith, is.0))
line_back (suc zero) is text bare =
    subst (λ (d : List ℕ). line_of (d ++ codes " " ++ text) ≡ Given 1 text) (sym (decimal_digit 1 (lit< tt)))
    (ap (Given 1) bare)
line_back (suc (suc zero)) is text bare =
    subst (λ (d : List ℕ). line_of (d ++ codes " " ++ text) ≡ Given 2 text) (sym (decimal_digit 2 (lit< tt)))
    (ap (Given 2) bare)
line_back (suc (suc (suc zero))) is text bare =
    subst (λ (d : List ℕ). line_of (d ++ codes " " ++ text) ≡ Given 3 text) (sym (decimal_digit 3 (lit< tt)))
    (ap (Given 3) bare)
line_back (suc (suc (suc (suc zero)))) is text bare =
    subst (λ (d : List ℕ). line_of (d ++ codes " " ++ text) ≡ Given 4 text) (sym (decimal_digit 4 (lit< tt)))
    (ap (Given 4) bare)
line_back (suc (suc (suc (suc (suc zero))))) is text bare =
    subst (λ (d : List ℕ). line_of (d ++ codes " " ++ text) ≡ Given 5 text) (sym (decimal_digit 5 (lit< tt)))
    (ap (Given 5) bare)
line_back (suc (suc (suc (suc (suc (suc zero)))))) is text bare =
    subst (λ (d : List ℕ). line_of (d ++ codes " " ++ text) ≡ Given 6 text) (sym (decimal_digit 6 (lit< tt)))
    (ap (Given 6) bare)
line_back (suc (suc (suc (suc (suc (suc (suc zero))))))) is text bare =
    subst (λ (d : List ℕ). line_of (d ++ codes " " ++ text) ≡ Given 7 text) (sym (decimal_digit 7 (lit< tt)))
    (ap (Given 7) bare)
line_back (suc (suc (suc (suc (suc (suc (suc (suc zero)))))))) is text bare =
    subst (λ (d : List ℕ). line_of (d ++ codes " " ++ text) ≡ Given 8 text) (sym (decimal_digit 8 (lit< tt)))
    (ap (Given 8) bare)
line_back (suc (suc (suc (suc (suc (suc (suc (suc (suc zero))))))))) is text bare =
    subst (λ (d : List ℕ). line_of (d ++ codes " " ++ text) ≡ Given 9 text) (sym (decimal_digit 9 (lit< tt)))
    (ap (Given 9) bare)
line_back (suc (suc (suc (suc (suc (suc (suc (suc (suc (suc zero)))))))))) is text bare =
    subst (λ (d : List ℕ). line_of (d ++ codes " " ++ text) ≡ Given 10 text)
    (sym (decimal_step 10 (lit≤ tt) (lit< tt) ∙ ap (λ (d : List ℕ). d ++ 48 ∷ []) (decimal_digit 1 (lit< tt))))
    (ap (Given 10) bare)
line_back (suc (suc (suc (suc (suc (suc (suc (suc (suc (suc (suc zero))))))))))) is text bare =
    subst (λ (d : List ℕ). line_of (d ++ codes " " ++ text) ≡ Given 11 text)
    (sym (decimal_step 11 (lit≤ tt) (lit< tt) ∙ ap (λ (d : List ℕ). d ++ 49 ∷ []) (decimal_digit 1 (lit< tt))))
    (ap (Given 11) bare)
line_back (suc (suc (suc (suc (suc (suc (suc (suc (suc (suc (suc (suc zero)))))))))))) is text bare =
    subst (λ (d : List ℕ). line_of (d ++ codes " " ++ text) ≡ Given 12 text)
    (sym (decimal_step 12 (lit≤ tt) (lit< tt) ∙ ap (λ (d : List ℕ). d ++ 50 ∷ []) (decimal_digit 1 (lit< tt))))
    (ap (Given 12) bare)
line_back (suc (suc (suc (suc (suc (suc (suc (suc (suc (suc (suc (suc (suc zero))))))))))))) is text bare =
    subst (λ (d : List ℕ). line_of (d ++ codes " " ++ text) ≡ Given 13 text)
    (sym (decimal_step 13 (lit≤ tt) (lit< tt) ∙ ap (λ (d : List ℕ). d ++ 51 ∷ []) (decimal_digit 1 (lit< tt))))
    (ap (Given 13) bare)
line_back (suc (suc (suc (suc (suc (suc (suc (suc (suc (suc (suc (suc (suc (suc zero)))))))))))))) is text bare =
    subst (λ (d : List ℕ). line_of (d ++ codes " " ++ text) ≡ Given 14 text)
    (sym (decimal_step 14 (lit≤ tt) (lit< tt) ∙ ap (λ (d : List ℕ). d ++ 52 ∷ []) (decimal_digit 1 (lit< tt))))
    (ap (Given 14) bare)
line_back (suc (suc (suc (suc (suc (suc (suc (suc (suc (suc (suc (suc (suc (suc (suc zero))))))))))))))) is text bare =
    subst (λ (d : List ℕ). line_of (d ++ codes " " ++ text) ≡ Given 15 text)
    (sym (decimal_step 15 (lit≤ tt) (lit< tt) ∙ ap (λ (d : List ℕ). d ++ 53 ∷ []) (decimal_digit 1 (lit< tt))))
    (ap (Given 15) bare)
line_back (suc (suc (suc (suc (suc (suc (suc (suc (suc (suc (suc (suc (suc (suc (suc (suc zero)))))))))))))))) is text
    bare =
    subst (λ (d : List ℕ). line_of (d ++ codes " " ++ text) ≡ Given 16 text)
    (sym (decimal_step 16 (lit≤ tt) (lit< tt) ∙ ap (λ (d : List ℕ). d ++ 54 ∷ []) (decimal_digit 1 (lit< tt))))
    (ap (Given 16) bare)
line_back (suc (suc (suc (suc (suc (suc (suc (suc (suc (suc (suc (suc (suc (suc (suc (suc (suc more))))))))))))))))) is
    text bare = absurd (omega (arith, is.1))

-- what is written for a statement begins with no blank, if the text of its call doesn't
canonical_bare : (statement : Statement) (text : List ℕ) → unblank text ≡ text
    → unblank (canonical_text statement text) ≡ canonical_text statement text
unfolding statement_text behind belongs
canonical_bare statement text bare = grind (arith)

-- what is written for a call, a statement's canonical form or its own text, begins with no blank, if its text doesn't
text_bare : (read : Result Statement ℕ) (text : List ℕ) → unblank text ≡ text
    → unblank (text_read read text) ≡ text_read read text
text_bare read text bare = grind (arith, canonical_bare)

-- what is written for a text that a session called for begins with no blank, if the text doesn't
pub call_bare : (text : List ℕ) → unblank text ≡ text → unblank (call_text text) ≡ call_text text
call_bare text bare = text_bare (read_of text) text bare

-- a statement's canonical form is read as that statement, if the grammar spells it so
spelled_back : (statement : Statement) → Spells (statement_text statement) statement
    → read_of (statement_text statement) ≡ Ok statement
spelled_back statement spells = (reads_spelled (statement_text statement) statement).1 spells

-- what is written for a statement that was read is read as the same, if it is written back or unsupported
canonical_back : (statement : Statement) (text : List ℕ) → read_of text ≡ Ok statement
    → (statement ≢ Statement.Unsupported → IsWrittenBack statement)
    → read_of (canonical_text statement text) ≡ Ok statement
canonical_back statement text is spells = grind (arith, spelled_back)

-- what is written for a call's text, as it was read, makes the same request as that text, if this is well called
read_back : (read : Result Statement ℕ) (text : List ℕ) → read_of text ≡ read → IsWellCalled text
    → request_read read ≡ request_read (read_of (text_read read text))
read_back read text is well = grind (arith, canonical_back)

-- what is written for a text that a session called for makes the same request as that text, if this is well called
pub call_back : (text : List ℕ) → IsWellCalled text → request_called text ≡ request_read (read_of (call_text text))
call_back text well = read_back (read_of text) text refl well

-- what is written for a statement has no line feed, if its text has none, and it is written back or unsupported
canonical_feed : (statement : Statement) (text : List ℕ) → HasNoFeed text
    → (statement ≢ Statement.Unsupported → IsWrittenBack statement)
    → HasNoFeed (canonical_text statement text)
canonical_feed statement text free written = grind (arith)

-- what is written for a call's text, as it was read, has no line feed, if the text is well called
read_feed : (read : Result Statement ℕ) (text : List ℕ) → read_of text ≡ read → IsWellCalled text
    → HasNoFeed (text_read read text)
read_feed read text is well = grind (arith, canonical_feed)

-- what is written for a text that a session called for has no line feed, if the text is well called
pub call_feed : (text : List ℕ) → IsWellCalled text → HasNoFeed (call_text text)
call_feed text well = read_feed (read_of text) text refl well

-- a session's number fits into 64 bits, in which numbers are printed
below_bound : (session : ℕ) → session ≤ 16 → session < 2 ^ 64
below_bound session is = omega (arith, is)

-- a session's number, a blank and a text without a line feed have no line feed
pub line_feed : (session : ℕ) → IsSession session → (text : List ℕ) → HasNoFeed text
    → HasNoFeed (decimal session ++ codes " " ++ text)
line_feed session is text free = grind (arith, below_bound, decimal, decimal_feed, feed-append)
