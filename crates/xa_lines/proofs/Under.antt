-- A conversation, byte by byte and answer by answer. It is under way if all whole lines that don't wait are answered.
use Rattle.std.proofs.Common.{◌≡◌, ℕ, ◌==◌, true, false, List, [], ◌∷◌, ◌++◌, length, take, drop, refl, sym, ap, subst}
use Rattle.std.proofs.Common.{◌∙◌, append_assoc, append-nil, ◌≤◌, ◌+◌, arith, length-append}
use Rattle.std.proofs.lemmas.{List.{length-take, take-append-drop}, Bool.Decides.nat_tests, Grind.common_steps}
use Rattle.xa_lines.specs.{Script.lines_of, Exchange.{Exchange, IsFresh, with_received}}
use Rattle.xa_lines.specs.Received.{Received, Whole, received_line, longer, is_nothing}
use Rattle.xa_lines.specs.Served.{AnswersAll, AreAnswers, IsAnswerSoFar, IsServed, IsCutOff}
use Rattle.xa_lines.specs.{UnderWay.{IsUnderWay, IsReady, IsAllAnswered}, declared.stage.Stage.Stage}
use Rattle.xa_lines.proofs.Cut.{cut_none, cut_more, cut_feed, lines_of-cut, lines_of-cut_feed, lines_of-some}
use Rattle.xa_lines.proofs.Cut.{lines_of-nothing, nothing_begun, received_line-nothing, received_line-longer}

-- if there were no more reads than bytes received, there still aren't after a read that gives at least one byte
longer_received : (reads n : ℕ) (received piece : List ℕ) → (n == 0) ≡ false → n ≤ length piece
    → reads ≤ length received → reads + 1 ≤ length (received ++ take n piece)
longer_received reads n received piece some within before = grind (arith, nat_tests, length-append, length-take)

module _ {S : Type 0} (Begins : S → Type 0) (Answers : S → Received → List ℕ → S → Type 0) where
  -- no lines are answered with nothing, and the server stays as it is
  answers_none : (state : S) → AnswersAll Answers state [] [] state
  unfolding AnswersAll
  answers_none state = (refl, refl)

  -- if lines are answered, and one more after them, the answers to all are both texts together
  answers_more : (lines : List (List ℕ)) (first mid last : S) (text : List ℕ) (line answer : List ℕ)
      → AnswersAll Answers first lines text mid
      → Answers mid (received_line line) answer last
      → AnswersAll Answers first (lines ++ line ∷ []) (text ++ answer) last
  unfolding AnswersAll
  answers_more [] first mid last text line answer before now =
      let P : S → Type 0 = λ s. Answers s (received_line line) answer last in
      (last, answer, [], subst P before.1 now, (refl, refl), ap (λ xs. xs ++ answer) before.0 ∙ sym (append-nil answer))
  answers_more (x ∷ lines) first mid last text line answer before now =
      let more = answers_more lines before.0 mid last before.2 line answer before.4 now in (
        before.0,
        before.1,
        before.2 ++ answer,
        before.3,
        more,
        ap (λ xs. xs ++ answer) before.5
            ∙ append_assoc before.1 before.2 answer,
      )

  -- a conversation in which nothing has passed, with a server that has just begun, is ready for more
  pub fresh : (exchange : Exchange) (line : Received) (server : S) → IsFresh exchange → line ≡ Whole [] → Begins server
      → IsReady Begins Answers Stage.Open 0 exchange line server
  fresh exchange line server none nothing begins =
      let P : List ℕ → Type 0 = λ xs. AnswersAll Answers server [] xs server in (
        none.2 ∙ sym none.1,
        record {
          done = [];
          lines = [];
          begun = [];
          first = server;
          parts = none.0;
          cut = cut_none;
          held = nothing ∙ received_line-nothing;
          begins = begins;
          answers = subst P (sym none.1) (answers_none server);
          stage_is = none.3;
          counted = omega arith;
        },
      )

  -- the next byte, which is no line feed, makes the line that has begun longer, and no longer waits
  pub put : (stage : Stage) (reads : ℕ) (exchange : Exchange) (byte : ℕ) (waiting : List ℕ) (line next : Received)
      (server : S) → (byte == 10) ≡ false
      → next ≡ longer line byte
      → IsUnderWay Begins Answers stage reads exchange (byte ∷ waiting) line server
      → IsUnderWay Begins Answers stage reads exchange waiting next server
  put stage reads exchange byte waiting line next server other is u =
      grind (arith, common_steps, nat_tests, append_assoc, cut_more, received_line-longer)

  -- the next byte, a line feed, ends the line, whose answer was given: it no longer waits, and the next line is empty
  pub answered : (stage : Stage) (reads : ℕ) (exchange new : Exchange) (waiting answer : List ℕ) (line : Received)
      (server after : S)
      → new ≡ record exchange { given = exchange.given ++ answer } → Answers server line answer after
      → IsUnderWay Begins Answers stage reads exchange (10 ∷ waiting) line server
      → IsUnderWay Begins Answers stage reads new waiting (Whole []) after
  answered stage reads exchange new waiting answer line server after is now u =
      let P : Exchange → Type 0 = λ e. IsUnderWay Begins Answers stage reads e waiting (Whole []) after in
      let Q : Received → Type 0 = λ l. Answers server l answer after in
      subst P (sym is) (record {
        done = u.done ++ 10 ∷ [];
        lines = u.lines ++ u.begun ∷ [];
        begun = [];
        first = u.first;
        parts = u.parts ∙ sym (append_assoc u.done (10 ∷ []) waiting);
        cut = cut_feed u.done u.lines u.begun u.cut;
        held = received_line-nothing;
        begins = u.begins;
        answers = answers_more u.lines u.first server after exchange.given u.begun answer u.answers
            (subst Q u.held now);
        stage_is = u.stage_is;
        counted = u.counted;
      })

  -- the next byte, a line feed, ends the line, and giving its answer failed after a part: the conversation is cut off
  pub begun_answer : (stage : Stage) (reads : ℕ) (exchange new : Exchange) (waiting answer : List ℕ) (n : ℕ)
      (line : Received) (server after : S)
      → new ≡ record exchange { given = exchange.given ++ take n answer; stage = Stage.Mute }
      → Answers server line answer after
      → IsUnderWay Begins Answers stage reads exchange (10 ∷ waiting) line server → IsCutOff Begins Answers new
  begun_answer stage reads exchange new waiting answer n line server after is now u =
      let P : Exchange → Type 0 = λ e. IsCutOff Begins Answers e in
      let Q : Received → Type 0 = λ l. Answers server l answer after in
      let R : List ℕ → Type 0 = λ text. AreAnswers Begins Answers (u.lines ++ u.begun ∷ []) text in
      let whole : exchange.given ++ answer ≡ (exchange.given ++ take n answer) ++ drop n answer =
      ap (λ xs. exchange.given ++ xs) (sym (take-append-drop n answer))
      ∙ sym (append_assoc exchange.given (take n answer) (drop n answer)) in
      subst P (sym is) (
        record {
          lines = u.lines ++ u.begun ∷ [];
          later = lines_of waiting;
          unsaid = drop n answer;
          parts = ap lines_of u.parts ∙ lines_of-cut_feed u.done u.lines u.begun waiting u.cut;
          answers =
              subst R whole (record {
                first = u.first;
                last = after;
                begins = u.begins;
                answers = answers_more u.lines u.first server after exchange.given u.begun answer u.answers
                    (subst Q u.held now);
              });
        },
        refl,
      )

  -- a read gave at least one byte when none waited: these bytes wait
  pub received : (reads : ℕ) (exchange new : Exchange) (n : ℕ) (piece : List ℕ) (line : Received) (server : S)
      → (n == 0) ≡ false → n ≤ length piece
      → new ≡ with_received exchange n piece
      → IsUnderWay Begins Answers Stage.Open reads exchange [] line server
      → IsUnderWay Begins Answers Stage.Open (reads + 1) new (take n piece) line server
  received reads exchange new n piece line server also within is u = grind (arith, append-nil, longer_received)

  -- if no byte waits, what was given answers all whole lines of what was received
  so_far : (stage : Stage) (reads : ℕ) (exchange : Exchange) (text : List ℕ) (line : Received) (server : S)
      → text ≡ exchange.given
      → IsUnderWay Begins Answers stage reads exchange [] line server
      → IsAnswerSoFar Begins Answers exchange.received text
  so_far stage reads exchange text line server is u = grind (arith, append-nil)

  -- if a read failed in a conversation that was ready for more, all whole lines are answered, and the client is deaf
  pub deaf : (reads : ℕ) (exchange new : Exchange) (line : Received) (server : S)
      → new ≡ record exchange { stage = Stage.Deaf }
      → IsReady Begins Answers Stage.Open reads exchange line server
      → IsAnswerSoFar Begins Answers new.received new.told × (new.stage ≡ Stage.Deaf)
  deaf reads exchange new line server is r = grind (arith, common_steps, nat_tests, so_far)

  -- if all that was given was flushed when no byte waited, the conversation is ready for more
  pub flushed : (stage : Stage) (reads : ℕ) (exchange new : Exchange) (line : Received) (server : S)
      → new ≡ record exchange { told = exchange.given }
      → IsUnderWay Begins Answers stage reads exchange [] line server
      → IsReady Begins Answers stage reads new line server
  flushed stage reads exchange new line server is u = grind (arith)

  -- if a flush failed when no byte waited, the conversation is cut off
  pub unflushed : (stage : Stage) (reads : ℕ) (exchange new : Exchange) (told : List ℕ) (line : Received) (server : S)
      → new ≡ record exchange { told = told; stage = Stage.Mute }
      → IsUnderWay Begins Answers stage reads exchange [] line server → IsCutOff Begins Answers new
  unflushed stage reads exchange new told line server is u =
      let P : Exchange → Type 0 = λ e. IsCutOff Begins Answers e in
      let Q : List ℕ → Type 0 = λ xs. AreAnswers Begins Answers u.lines xs in
      subst P (sym is) (
        record {
          lines = u.lines;
          later = lines_of (u.begun ++ []);
          unsaid = [];
          parts = ap lines_of u.parts ∙ lines_of-cut u.done u.lines u.begun [] u.cut;
          answers = subst Q (sym (append-nil exchange.given))
              (record { first = u.first; last = server; begins = u.begins; answers = u.answers });
        },
        refl,
      )

  -- if the client has ended, and nothing of a further line has come, all lines are answered
  pub end_nothing : (reads : ℕ) (exchange : Exchange) (line : Received) (server : S) → is_nothing line ≡ true
      → IsUnderWay Begins Answers Stage.Ended reads exchange [] line server → IsAllAnswered Begins Answers exchange
  end_nothing reads exchange line server none u =
      let none_begun : u.begun ≡ [] = nothing_begun u.begun (ap is_nothing (sym u.held) ∙ none) in
      let all : lines_of exchange.received ≡ u.lines =
      ap lines_of u.parts ∙ lines_of-cut u.done u.lines u.begun [] u.cut
      ∙ ap (λ xs. u.lines ++ lines_of (xs ++ [])) none_begun
      ∙ ap (λ xs. u.lines ++ xs) lines_of-nothing ∙ append-nil u.lines in
      let P : List (List ℕ) → Type 0 = λ lines. AreAnswers Begins Answers lines exchange.given in (
        u.stage_is,
        subst P (sym all)
            (record { first = u.first; last = server; begins = u.begins; answers = u.answers }),
      )

  -- if something of a further line has come when the client ended, the lines are the whole ones and that one
  all_lines : (reads : ℕ) (exchange : Exchange) (line : Received) (server : S) → is_nothing line ≡ false
      → (u : IsUnderWay Begins Answers Stage.Ended reads exchange [] line server)
      → lines_of exchange.received ≡ u.lines ++ u.begun ∷ []
  all_lines reads exchange line server some u =
      ap lines_of u.parts ∙ lines_of-cut u.done u.lines u.begun [] u.cut
      ∙ ap (λ xs. u.lines ++ lines_of xs) (append-nil u.begun)
      ∙ ap (λ xs. u.lines ++ xs) (lines_of-some u.begun u.cut.last (ap is_nothing (sym u.held) ∙ some))

  -- the client has ended, and the answer to the last line, which has no line feed, was given: all lines are answered
  pub end_answered : (reads : ℕ) (exchange new : Exchange) (answer : List ℕ) (line : Received) (server after : S)
      → is_nothing line ≡ false
      → new ≡ record exchange { given = exchange.given ++ answer } → Answers server line answer after
      → IsUnderWay Begins Answers Stage.Ended reads exchange [] line server → IsAllAnswered Begins Answers new
  end_answered reads exchange new answer line server after some is now u =
      let P : Exchange → Type 0 = λ e. IsAllAnswered Begins Answers e in
      let Q : Received → Type 0 = λ l. Answers server l answer after in
      let R : List (List ℕ) → Type 0 = λ lines. AreAnswers Begins Answers lines (exchange.given ++ answer) in
      let answers = answers_more u.lines u.first server after exchange.given u.begun answer u.answers
      (subst Q u.held now) in
      subst P (sym is) (
        u.stage_is,
        subst R (sym (all_lines reads exchange line server some u))
            (record { first = u.first; last = after; begins = u.begins; answers = answers }),
      )

  -- the client has ended, and giving the answer to the last line failed after a part: the conversation is cut off
  pub end_begun : (reads : ℕ) (exchange new : Exchange) (answer : List ℕ) (n : ℕ) (line : Received) (server after : S)
      → is_nothing line ≡ false
      → new ≡ record exchange { given = exchange.given ++ take n answer; stage = Stage.Mute }
      → Answers server line answer after → IsUnderWay Begins Answers Stage.Ended reads exchange [] line server
      → IsCutOff Begins Answers new
  end_begun reads exchange new answer n line server after some is now u =
      let P : Exchange → Type 0 = λ e. IsCutOff Begins Answers e in
      let Q : Received → Type 0 = λ l. Answers server l answer after in
      let R : List ℕ → Type 0 = λ text. AreAnswers Begins Answers (u.lines ++ u.begun ∷ []) text in
      let whole : exchange.given ++ answer ≡ (exchange.given ++ take n answer) ++ drop n answer =
      ap (λ xs. exchange.given ++ xs) (sym (take-append-drop n answer))
      ∙ sym (append_assoc exchange.given (take n answer) (drop n answer)) in
      subst P (sym is) (
        record {
          lines = u.lines ++ u.begun ∷ [];
          later = [];
          unsaid = drop n answer;
          parts = all_lines reads exchange line server some u ∙ sym (append-nil (u.lines ++ u.begun ∷ []));
          answers =
              subst R whole (record {
                first = u.first;
                last = after;
                begins = u.begins;
                answers = answers_more u.lines u.first server after exchange.given u.begun answer u.answers
                    (subst Q u.held now);
              });
        },
        refl,
      )

  -- if all lines are answered, and all that was given was flushed, the client is served
  pub served : (exchange new : Exchange) → new ≡ record exchange { told = exchange.given }
      → IsAllAnswered Begins Answers exchange → IsServed Begins Answers new
  served exchange new is all = grind (arith)

  -- if all lines are answered, and the last flush failed, the conversation is cut off
  pub unserved : (exchange new : Exchange) (told : List ℕ) → new ≡ record exchange { told = told; stage = Stage.Mute }
      → IsAllAnswered Begins Answers exchange
      → IsCutOff Begins Answers new
  unserved exchange new told is all =
      let P : Exchange → Type 0 = λ e. IsCutOff Begins Answers e in
      let Q : List ℕ → Type 0 = λ xs. AreAnswers Begins Answers (lines_of exchange.received) xs in
      subst P (sym is) (
        record {
          lines = lines_of exchange.received;
          later = [];
          unsaid = [];
          parts = sym (append-nil (lines_of exchange.received));
          answers = subst Q (sym (append-nil exchange.given)) all.1;
        },
        refl,
      )
