use Rattle.std.proofs.Common.{codes, refl, arith}
use Rattle.xa_xid.specs.Bytes.{front, behind, belongs}
use Rattle.xa_statement.specs.Token.{token_at, keyword_of, statement_word, clause_word, is_word}
use Rattle.xa_statement.specs.declared.token.Keyword.TheVariants.{Xa, Start, End, Prepare, Commit, Rollback, Get, Put}
use Rattle.xa_statement.{specs.declared.token.Keyword.TheVariants.Del, proofs.Openings.word_taken}
use Rattle.xa_statement.proofs.first.usual_word.Goals as goal

pub returns-in-Some : goal.returns-in-Some
unfolding token_at front behind belongs keyword_of statement_word clause_word is_word
returns-in-Some c =
    let found = c.in-Some in
    word_taken Xa c.args.text.now (codes "XA ") found.rest.now found.ensures refl (omega arith) refl

pub returns-in-Some-behind_bytes : goal.returns-in-Some-behind_bytes
unfolding token_at front behind belongs keyword_of statement_word clause_word is_word
returns-in-Some-behind_bytes c =
    let found = c.in-Some-behind_bytes in
    word_taken Start c.args.text.now (codes "START ") found.rest.now found.ensures refl (omega arith) refl

pub returns-in-Some-behind_bytes-2 : goal.returns-in-Some-behind_bytes-2
unfolding token_at front behind belongs keyword_of statement_word clause_word is_word
returns-in-Some-behind_bytes-2 c =
    let found = c.in-Some-behind_bytes-2 in
    word_taken End c.args.text.now (codes "END ") found.rest.now found.ensures refl (omega arith) refl

pub returns-in-Some-behind_bytes-3 : goal.returns-in-Some-behind_bytes-3
unfolding token_at front behind belongs keyword_of statement_word clause_word is_word
returns-in-Some-behind_bytes-3 c =
    let found = c.in-Some-behind_bytes-3 in
    word_taken Prepare c.args.text.now (codes "PREPARE ") found.rest.now found.ensures refl (omega arith) refl

pub returns-in-Some-behind_bytes-4 : goal.returns-in-Some-behind_bytes-4
unfolding token_at front behind belongs keyword_of statement_word clause_word is_word
returns-in-Some-behind_bytes-4 c =
    let found = c.in-Some-behind_bytes-4 in
    word_taken Commit c.args.text.now (codes "COMMIT ") found.rest.now found.ensures refl (omega arith) refl

pub returns-in-Some-behind_bytes-5 : goal.returns-in-Some-behind_bytes-5
unfolding token_at front behind belongs keyword_of statement_word clause_word is_word
returns-in-Some-behind_bytes-5 c =
    let found = c.in-Some-behind_bytes-5 in
    word_taken Rollback c.args.text.now (codes "ROLLBACK ") found.rest.now found.ensures refl (omega arith) refl

pub returns-in-Some-behind_bytes-6 : goal.returns-in-Some-behind_bytes-6
unfolding token_at front behind belongs keyword_of statement_word clause_word is_word
returns-in-Some-behind_bytes-6 c =
    let found = c.in-Some-behind_bytes-6 in
    word_taken Get c.args.text.now (codes "GET ") found.rest.now found.ensures refl (omega arith) refl

pub returns-in-Some-behind_bytes-7 : goal.returns-in-Some-behind_bytes-7
unfolding token_at front behind belongs keyword_of statement_word clause_word is_word
returns-in-Some-behind_bytes-7 c =
    let found = c.in-Some-behind_bytes-7 in
    word_taken Put c.args.text.now (codes "PUT ") found.rest.now found.ensures refl (omega arith) refl

pub returns-in-Some-behind_bytes-8 : goal.returns-in-Some-behind_bytes-8
unfolding token_at front behind belongs keyword_of statement_word clause_word is_word
returns-in-Some-behind_bytes-8 c =
    let found = c.in-Some-behind_bytes-8 in
    word_taken Del c.args.text.now (codes "DEL ") found.rest.now found.ensures refl (omega arith) refl
