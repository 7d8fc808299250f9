-- The order in which the calls of a race's runs return.
use Rattle.std.proofs.Common.{◌≡◌, ◌⊎◌, ℕ, zero, suc, ◌+◌, ◌++◌, ◌∷◌, Some, List, [], length, refl, sym, ◌∙◌, subst}
use Rattle.std.{proofs.{Common.{inl, inr, arith}, lemmas.Bool.cases_lt}, specs.Prelude.slice_get}
use Rattle.xa_words.specs.Entry.{Entry}
use Rattle.xa_server.specs.{State.State, Replies.reply_to, Step.after}
use Rattle.xa_session.{specs.Replay.state_at, proofs.Replaying.state_after-nil}
use Rattle.xa_judge.specs.Explained.{Config, opening_config, IsSession}
use Rattle.xa_races.{specs.LinesLeft.with_lines, proofs.{Tests.lines_other, Histories.{Said, Remains}, Schedules.goes}}
use Rattle.nigbaru.specs.Overlapping.{RunLine, Lines, first_calls, over, IsExplainedOverlap}
use Rattle.nigbaru.proofs.OverlapSteps.{RunsOn, Stands, Goes, emits, Begun, begins, none_called, opening-state}

-- what a line of a run says, and was answered
abbrev pub spoken : RunLine → Said
spoken line = record { statement = line.statement; answer = line.answer }

-- each session stands as `Stands` says, and what isn't a session's number has no lines
pub record StandsWithin (lines : Lines) (config : Config) : Type 0 where
  pub stands : Stands lines config
  pub outside : (session : ℕ) → (IsSession session → ⊥) → lines session ≡ []

-- after a session's lines are replaced, what isn't a session's number still has no lines
outside_with : (lines : Lines) (session : ℕ) (rest : List RunLine) → IsSession session
    → ((other : ℕ) → (IsSession other → ⊥) → lines other ≡ [])
    → (other : ℕ)
    → (IsSession other → ⊥) → with_lines lines session rest other ≡ []
outside_with lines session rest is outside other out =
    lines_other lines session other rest (λ same. out (subst (λ (n : ℕ). IsSession n) (sym same) is))
    ∙ outside other out

-- if a session's first line got the server's reply in this state, the lines can be written down, if the rest can from
-- each configuration with the state after that line (as `emits`, with `StandsWithin` in place of `Stands`)
next : (lines : Lines) (session : ℕ) (line : RunLine) (rest : List RunLine) (config : Config) → IsSession session
    → lines session ≡ line ∷ rest → StandsWithin lines config
    → line.answer.reply ≡ reply_to config.state session line.statement
    → ((new : Config) → new.state ≡ after config.state session line.statement
    → StandsWithin (with_lines lines session rest) new → Goes (with_lines lines session rest) new) → Goes lines config
next lines session line rest config is own within reply go =
    emits lines session line rest config is own within.stands reply (λ new state stands. go new state
    (record { stands = stands; outside = outside_with lines session rest is within.outside }))

-- a number is a session's, or it isn't
in_or_out : (session : ℕ) → IsSession session ⊎ (IsSession session → ⊥)
in_or_out zero = inr (λ is. absurd (omega (arith, is.0)))
in_or_out (suc count) = elim (cases_lt count 16) [
  | inl low ↦ inl (omega arith, omega arith)
  | inr high ↦ inr
      (λ is. absurd (omega (arith, is.1)))
]

-- at the end of the history, if no session has a line left, the lines are written down by no events
done : (base : State) (history : List Entry) (lines : Lines) (config : Config) → StandsWithin lines config
    → config.state ≡ state_at base history (length history)
    → ((session : ℕ) → IsSession session → lines session ≡ []) → Goes lines config
done base history lines config within state none =
    record { events = []; overlap = over all; run = record { moves = []; new = config; runs = refl } }
  where
    all : (session : ℕ) → lines session ≡ []
    all session = elim (in_or_out session) [ inl is ↦ none session is | inr out ↦ within.outside session out ]

-- if the history has entries of sessions alone, each session's lines are what remains at its beginning, and nobody
-- else has lines, the lines can be written down so that they are explained
pub overlap_explained : (base : State) (history : List Entry) (lines : Lines)
    → ((at : ℕ) (entry : Entry) → slice_get history at ≡ Some entry → IsSession entry.session)
    → ((session : ℕ) → IsSession session → Remains spoken base history 0 session (lines session))
    → ((session : ℕ) → (IsSession session → ⊥) → lines session ≡ []) → IsExplainedOverlap base lines
overlap_explained base history lines sessions remain outside =
    let begun : Begun 16 lines (opening_config base) = begins 16 (omega arith) lines (opening_config base)
    (none_called lines base) in
    let all : Goes lines begun.new = goes spoken (λ (c : Config). c.state) StandsWithin Goes base history next
    (done base history) (length history) 0 (omega arith) sessions lines begun.new (record {
      remain = remain;
      state = begun.state ∙ opening-state base ∙ sym (state_after-nil base);
      stands = record { stands = begun.stands; outside = outside };
    }) in
    let run : RunsOn (opening_config base) (first_calls 16 lines ++ all.events) = begun.back all.events all.run in
    (all.events, all.overlap, (run.moves, run.new, run.runs))
