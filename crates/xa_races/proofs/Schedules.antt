-- The order in which the lines of a race have their turns: place by place of the history, at each first those that
-- don't enter there, and then the one that does. What a turn is, the module is told.
--     Ready             the lines that are left at a place, and how things stand
--     Leads             turns lead to the end once a session is drained
--     goes              turns of the lines that are left at a place lead to the end
use Rattle.std.proofs.Common.{◌≡◌, ◌≢◌, ℕ, zero, suc, ◌+◌, ◌<◌, ◌≤◌, Bool, true, false, Some, List, [], ◌∷◌, length}
use Rattle.std.proofs.{Common.{refl, ap, sym, ◌∙◌, subst, arith, add-one}, lemmas.Option.same_Some}
use Rattle.std.specs.Prelude.{slice_get}
use Rattle.xa_words.specs.Entry.{Entry}
use Rattle.xa_server.{specs.{State.State, Replies.reply_to, Step.{enters, after}}, proofs.Entering.unentered_leaves}
use Rattle.xa_session.{specs.{Replay.state_at, Answer.entry_of}, proofs.Replaying.state_at-next}
use Rattle.xa_orders.specs.Orders.{IsSession}
use Rattle.xa_races.{specs.LinesLeft.with_lines, proofs.Tests.{same_number, get_within, lines_own, lines_other}}
use Rattle.xa_races.proofs.Histories.{Said, Remains, Drained, skipped, entering, enters_there, waiting, Due, due, ended}

-- Lines of any kind have their turns in configurations of any kind. `Stands` says how things stand, and `Goes` that
-- turns lead from there to the end: one turn leads there if the others do, and without lines that is the end.
module _ {L C : Type 0} (spoken : L → Said) (state_of : C → State) (Stands Goes : (ℕ → List L) → C → Type 0)
    (base : State) (history : List Entry)
    (emits : (lines : ℕ → List L) (session : ℕ) (line : L) (rest : List L) (config : C) → IsSession session
    → lines session ≡ line ∷ rest → Stands lines config
    → (spoken line).answer.reply ≡ reply_to (state_of config) session (spoken line).statement
    → ((new : C) → state_of new ≡ after (state_of config) session (spoken line).statement
    → Stands (with_lines lines session rest) new → Goes (with_lines lines session rest) new) → Goes lines config)
    (ends : (lines : ℕ → List L) (config : C) → Stands lines config
    → state_of config ≡ state_at base history (length history)
    → ((session : ℕ) → IsSession session → lines session ≡ []) → Goes lines config) where
  -- at a place, `lines` are what remains of each session's lines, and the configuration has the state there
  pub record Ready (place : ℕ) (lines : ℕ → List L) (config : C) : Type 0 where
    pub remain : (session : ℕ) → IsSession session → Remains spoken base history place session (lines session)
    pub state : state_of config ≡ state_at base history place
    pub stands : Stands lines config

  -- if the new lines of one session are what remains of it, and the others' lines are as well, so are all lines once
  -- that session's are replaced
  remain_with : (next : ℕ) (lines : ℕ → List L) (session : ℕ) (rest : List L)
      → Remains spoken base history next session rest
      → ((other : ℕ) → IsSession other → other ≢ session → Remains spoken base history next other (lines other))
      → (other : ℕ) → IsSession other → Remains spoken base history next other (with_lines lines session rest other)
  remain_with next lines session rest own others other is =
      grind (arith, lines_other, lines_own, same_number, with_lines)

  -- the reply to a line that stands at the place is the server's in the configuration there
  reply_there : (place session : ℕ) (line : L) (rest : List L) (config : C)
      → Remains spoken base history place session (line ∷ rest)
      → (spoken line).answer.place ≡ place → state_of config ≡ state_at base history place
      → (spoken line).answer.reply ≡ reply_to (state_of config) session (spoken line).statement
  reply_there place session line rest config left at state = cc

  -- turns lead to the end from wherever the session is drained at the place and the others' lines are as before
  abbrev pub Leads : ℕ → ℕ → (ℕ → List L) → Type 0
  Leads place session lines =
      (new : ℕ → List L) (later : C) → Ready place new later → Drained spoken base history place session (new session)
      → ((other : ℕ) → other ≢ session → new other ≡ lines other) → Goes new later

  -- a session's first line that stands at the place and doesn't enter there has its turn: turns lead to the end, if
  -- they do so from where the rest of the session's lines is still to be drained
  skip_one : (place session : ℕ) → IsSession session → (line : L) (rest : List L) (lines : ℕ → List L)
      (config : C) → lines session ≡ line ∷ rest
      → Ready place lines config → (spoken line).answer.place ≡ place
      → enters (state_at base history place) session (spoken line).statement ≡ false
      → ((new : ℕ → List L) (later : C) → new session ≡ rest → Ready place new later → Leads place session new
      → Goes new later) → Leads place session lines
      → Goes lines config
  skip_one place session is line rest lines config own ready at out drains go =
      let left : Remains spoken base history place session (line ∷ rest) =
      subst (Remains spoken base history place session) own (ready.remain session is) in
      let same : after (state_of config) session (spoken line).statement ≡ state_of config =
      unentered_leaves (state_of config) session (spoken line).statement
      (ap (λ (s : State). enters s session (spoken line).statement) ready.state ∙ out) in
      let new : ℕ → List L = with_lines lines session rest in
      emits lines session line rest config is own ready.stands
      (reply_there place session line rest config left at ready.state)
      (λ later state stands. drains new later (lines_own lines session rest)
      (record {
        remain = remain_with place lines session rest (skipped spoken base history place session line rest left at out)
            (λ other it apart. ready.remain other it);
        state = state ∙ same ∙ ready.state;
        stands = stands;
      })
      (λ last end there drained others. go last end there drained
      (λ other apart. others other apart ∙ lines_other lines session other rest apart)))

  -- turns lead to the end from where a session has a first line, if they do so once the session is drained: it is
  -- already, if the line enters or stands at a later place; else the line is skipped
  drain_by : (place session : ℕ) → IsSession session → (line : L) (rest : List L) (lines : ℕ → List L)
      (config : C) → lines session ≡ line ∷ rest
      → Ready place lines config
      → (enters_it : Bool) → enters (state_at base history place) session (spoken line).statement ≡ enters_it
      → ((new : ℕ → List L) (later : C) → new session ≡ rest → Ready place new later → Leads place session new
      → Goes new later) → Leads place session lines
      → Goes lines config
  drain_by place session is line rest lines config own ready enters_it in' drains go =
      grind (arith, same_number, skip_one)

  -- turns lead to the end if they do so once a session is drained: those of its lines that stand at the place and
  -- don't enter there have their turns before
  drain : (place session : ℕ) → IsSession session → (own : List L) (lines : ℕ → List L) (config : C)
      → lines session ≡ own → Ready place lines config
      → Leads place session lines → Goes lines config
  drain place session is [] lines config own ready go =
      go lines config ready (subst (Drained spoken base history place session) (sym own) tt) (λ other apart. refl)
  drain place session is (line ∷ rest) lines config own ready go =
      drain_by place session is line rest lines config own ready
      (enters (state_at base history place) session (spoken line).statement) refl
      (λ new later at there leads. drain place session is rest new later at there leads) go

  -- if the sessions above `count + 1` were drained, that session now is, and the others' lines are as before, all
  -- above `count` are drained
  drained_above : (place count : ℕ) (lines new : ℕ → List L)
      → ((session : ℕ) → IsSession session → suc count < session
      → Drained spoken base history place session (lines session))
      → Drained spoken base history place (suc count) (new (suc count))
      → ((other : ℕ) → other ≢ suc count → new other ≡ lines other) → (session : ℕ) → IsSession session
      → count < session
      → Drained spoken base history place session (new session)
  drained_above place count lines new above own others session is high = grind (arith, same_number)

  -- turns lead to the end if they do so once all sessions are drained: those up to `count` are drained one after
  -- another, those above are already
  drain_all : (place count : ℕ) → count ≤ 16 → (lines : ℕ → List L) (config : C) → Ready place lines config
      → ((session : ℕ) → IsSession session → count < session
      → Drained spoken base history place session (lines session))
      → ((new : ℕ → List L) (later : C) → Ready place new later
      → ((session : ℕ) → IsSession session → Drained spoken base history place session (new session))
      → Goes new later) → Goes lines config
  drain_all place zero within lines config ready above go =
      go lines config ready (λ session is. above session is (omega arith))
  drain_all place (suc count) within lines config ready above go =
      drain place (suc count) (omega arith, within) (lines (suc count)) lines config refl ready
      (λ new later there own others. drain_all place count (omega arith) new later there
      (drained_above place count lines new above own others) go)

  -- if all sessions are drained at a place, turns lead to the end if they do so from the next place on: the line that
  -- is the entry at the place has its turn
  enter : (place : ℕ) (entry : Entry) → slice_get history place ≡ Some entry → IsSession entry.session
      → (lines : ℕ → List L) (config : C)
      → Ready place lines config
      → ((session : ℕ) → IsSession session → Drained spoken base history place session (lines session))
      → ((new : ℕ → List L) (later : C) → Ready (suc place) new later → Goes new later) → Goes lines config
  enter place entry at is lines config ready drained go =
      let session : ℕ = entry.session in
      let d : Due spoken place (lines session) = due spoken base history place session (lines session) entry
      (ready.remain session is) at refl in
      let left : Remains spoken base history place session (d.line ∷ d.rest) =
      subst (Remains spoken base history place session) d.is (ready.remain session is) in
      let in' : enters (state_at base history place) session (spoken d.line).statement ≡ true =
      subst (Drained spoken base history place session) d.is (drained session is) d.at in
      let same : entry ≡ entry_of session (spoken d.line).statement =
      same_Some entry (entry_of session (spoken d.line).statement) (sym at
      ∙ enters_there spoken base history place session d.line d.rest left d.at in') in
      let next : after (state_of config) session (spoken d.line).statement ≡ state_at base history (suc place) =
      ap (λ (s : State). after s session (spoken d.line).statement) ready.state
      ∙ ap (λ (e : Entry). after (state_at base history place) session e.statement) (sym same)
      ∙ sym (state_at-next base history place entry at)
      ∙ ap (state_at base history) (add-one place) in
      emits lines session d.line d.rest config is d.is ready.stands
      (reply_there place session d.line d.rest config left d.at ready.state)
      (λ later state stands. go (with_lines lines session d.rest) later (record {
        remain =
            remain_with (suc place) lines session d.rest
            (entering spoken base history place session d.line d.rest entry left d.at in' at refl)
            (λ other it apart. waiting spoken base history place other (lines other) entry (ready.remain other it)
            (drained other it) at (λ e. apart (sym e)));
        state = state ∙ next;
        stands = stands;
      }))

  -- at the end of the history, once all sessions are drained, no line is left, so this is the end
  done : (place : ℕ) → place ≡ length history → (lines : ℕ → List L) (config : C) → Ready place lines config
      → ((session : ℕ) → IsSession session → Drained spoken base history place session (lines session))
      → Goes lines config
  done place end lines config ready drained = grind (arith, ended, state_at)

  -- the turns of the lines that are left at a place lead to the end; from there on the history has `left` entries
  pub goes : (left place : ℕ) → place + left ≡ length history
      → ((at : ℕ) (entry : Entry) → slice_get history at ≡ Some entry → IsSession entry.session)
      → (lines : ℕ → List L) (config : C) → Ready place lines config → Goes lines config
  goes zero place end sessions lines config ready =
      drain_all place 16 (omega arith) lines config ready (λ session is high. absurd (omega (arith, is.1)))
      (λ new later there drained. done place (omega arith) new later there drained)
  goes (suc left) place end sessions lines config ready =
      let next = get_within history place (omega arith) in
      drain_all place 16 (omega arith) lines config ready (λ session is high. absurd (omega (arith, is.1)))
      (λ new later there drained. enter place next.0 next.1 (sessions place next.0 next.1) new later there drained
      (λ last end' ready'. goes left (suc place) (omega arith) sessions last end' ready'))
