-- If all calls are over at the end of a run, each has appended at most its own entry, once.
use Rattle.std.proofs.Common.{◌≡◌, ◌≢◌, ◌⊎◌, ℕ, Some, None, List, [], ◌∷◌, ◌++◌, length, refl, ap, sym, ◌∙◌, subst, inl}
use Rattle.std.proofs.Common.{inr, arith, length-append, append_assoc, append-nil}
use Rattle.std.{proofs.lemmas.Option.{none-some, same_Some}, specs.Prelude.{Option, slice_get}}
use mathlib.Core.Logic.{dite}
use Rattle.xa_words.specs.Entry.{Entry}
use Rattle.xa_server.specs.{State.State, Step.enters}
use Rattle.decision_log.specs.{declared.known.Known.Known, Machine.{Seen, Look, Add}}
use Rattle.xa_session.specs.{Replay.state_at, declared.answer.Answer.Answer, Answer.{entry_of, IsAnswered}}
use Rattle.xa_session.specs.Timed.{Moment, Call, Return, Fail, Log, Open, Stage, changed, known_at, Comes, Passes}
use Rattle.xa_session.{specs.Loose.{LooselyComes, LooselyPasses}, proofs.Answering.slice_get-last}
use Rattle.xa_session.proofs.Moments.{who, either, changed_there, frame}
use native.Mathlib.Decide.{ℕ_discrete}

-- two lists that end after the same entries end with the same entry
last_same : (xs : List Entry) (a b : Entry) → xs ++ a ∷ [] ≡ xs ++ b ∷ [] → a ≡ b
last_same xs a b same =
    same_Some a b
    (sym (slice_get-last xs a) ∙ ap (λ list. slice_get list (length xs)) same ∙ slice_get-last xs b)

-- a list without length is empty
none_left : (xs : List Entry) → length xs ≡ 0 → xs ≡ []
none_left [] is = refl
none_left (x ∷ xs) is = absurd (omega arith)

-- a moment of another session leaves a session's own entries and its call
record Apart (n : ℕ) (old new : Stage) : Type 0 where
  mine : (new.machine.knows n).mine ≡ (old.machine.knows n).mine
  call : new.calls n ≡ old.calls n

by_frame : (base : State) (moment : Moment) (old new : Stage) (n : ℕ) → who moment ≢ n → Comes base moment old new
    → Apart n old new
by_frame base moment old new n apart comes =
    let leaves = frame base moment old new n apart comes in
    record { mine = ap (λ (k : Known). k.mine) leaves.known; call = leaves.call }

-- so does a moment of a loose run
loose_frame : (base : State) (moment : Moment) (old new : Stage) (n : ℕ) → who moment ≢ n
    → LooselyComes base moment old new → Apart n old new
loose_frame base (Call m statement) old new n apart comes = by_frame base (Call m statement) old new n apart comes
loose_frame base (Return m answer) old new n apart comes = by_frame base (Return m answer) old new n apart comes
loose_frame base (Fail m) old new n apart comes = by_frame base (Fail m) old new n apart comes
loose_frame base (Log (Look m)) old new n apart comes = by_frame base (Log (Look m)) old new n apart comes
loose_frame base (Log (Add m entry)) old new n apart comes = record {
  mine = ap (λ (s : Seen). s.mine) (comes.0.others n (λ e. apart (sym e)));
  call = ap (λ (f : ℕ → Option Open). f n) comes.3;
}

-- a look leaves the own entries and the call of its session, too
look_apart : (base : State) (m n : ℕ) (old new : Stage) → Comes base (Log (Look m)) old new → Apart n old new
look_apart base m n old new comes =
    dite (ℕ_discrete m n)
    (λ same.
    let own : Comes base (Log (Look n)) old new = subst (λ k. Comes base (Log (Look k)) old new) same comes in
    record { mine = own.0.mine; call = ap (λ (f : ℕ → Option Open). f n) own.3 })
    (λ apart. by_frame base (Log (Look m)) old new n apart comes)

-- with some more entries of its own the session has none of its call's, or its call's one
abbrev Finishes : ℕ → Open → Stage → Type 0
Finishes n call stage =
    (more : List Entry)
    × (((stage.machine.knows n).mine ++ more ≡ call.old.mine)
    ⊎ ((stage.machine.knows n).mine ++ more ≡ call.old.mine ++ entry_of n call.statement ∷ []))

-- so it is before a moment that leaves the session's own entries
finishes_by : (n : ℕ) (call : Open) (old new : Stage) → (new.machine.knows n).mine ≡ (old.machine.knows n).mine
    → Finishes n call new → Finishes n call old
finishes_by n call old new same is =
    subst (λ (list : List Entry). (more : List Entry) × ((list ++ more ≡ call.old.mine)
    ⊎ (list ++ more ≡ call.old.mine ++ entry_of n call.statement ∷ []))) same is

-- so it is if the call returns here
finishes_answered : (base : State) (n : ℕ) (call : Open) (answer : Answer) (stage : Stage)
    → IsAnswered base call.statement answer call.old (known_at stage n) → Finishes n call stage
finishes_answered base n call answer stage answered =
    let mine = (stage.machine.knows n).mine in (
      [],
      elim (either (enters (state_at base (stage.machine.knows n).seen answer.place) call.old.number call.statement)) [
        | inl is_in ↦ inr (append-nil mine ∙ (answered.entered is_in).mine
            ∙ ap (λ k. call.old.mine ++ entry_of k call.statement ∷ []) (sym answered.advances.number))
        | inr is_out ↦ inl (append-nil mine ∙ (answered.outside is_out).mine)
      ],
    )

-- a call that is over at the end
finishes : (base : State) (n : ℕ) (call : Open) (moments : List Moment) (old new : Stage)
    → LooselyPasses base moments old new → old.calls n ≡ Some call
    → new.calls n ≡ None
    → Finishes n call old
finishes base n call [] old new passes has over =
    absurd (none-some call (sym over ∙ ap (λ (s : Stage). s.calls n) passes ∙ has))
finishes base n call (Call m statement ∷ moments) old new passes has over =
    let apart : m ≢ n = λ same. none-some call (sym (subst (λ k. old.calls k ≡ None) same passes.1.0) ∙ has) in
    let is = loose_frame base (Call m statement) old passes.0 n apart passes.1 in
    finishes_by n call old passes.0 is.mine
    (finishes base n call moments passes.0 new passes.2 (is.call ∙ has) over)
finishes base n call (Return m answer ∷ moments) old new passes has over =
    dite (ℕ_discrete m n)
    (λ same.
    let own : Comes base (Return n answer) old passes.0 =
    subst (λ k. Comes base (Return k answer) old passes.0) same passes.1 in
    finishes_answered base n call answer old
    (subst (λ (c : Open). IsAnswered base c.statement answer c.old (known_at old n))
    (same_Some own.0 call (sym own.1 ∙ has)) own.2))
    (λ apart.
    let is = loose_frame base (Return m answer) old passes.0 n apart passes.1 in
    finishes_by n call old passes.0 is.mine
    (finishes base n call moments passes.0 new passes.2 (is.call ∙ has) over))
finishes base n call (Fail m ∷ moments) old new passes has over =
    dite (ℕ_discrete m n)
    (λ same.
    let own : Comes base (Fail n) old passes.0 = subst (λ k. Comes base (Fail k) old passes.0) same passes.1 in
    let it : own.0 ≡ call = same_Some own.0 call (sym own.1 ∙ has) in (
      [],
      inl (append-nil (old.machine.knows n).mine ∙ own.2.mine ∙ ap (λ (c : Open). c.old.mine) it),
    ))
    (λ apart.
    let is = loose_frame base (Fail m) old passes.0 n apart passes.1 in
    finishes_by n call old passes.0 is.mine
    (finishes base n call moments passes.0 new passes.2 (is.call ∙ has) over))
finishes base n call (Log (Look m) ∷ moments) old new passes has over =
    let is = look_apart base m n old passes.0 passes.1 in
    finishes_by n call old passes.0 is.mine
    (finishes base n call moments passes.0 new passes.2 (is.call ∙ has) over)
finishes base n call (Log (Add m entry) ∷ moments) old new passes has over =
    dite (ℕ_discrete m n)
    (λ same.
    let own : LooselyComes base (Log (Add n entry)) old passes.0 =
    subst (λ k. LooselyComes base (Log (Add k entry)) old passes.0) same passes.1 in
    let next = finishes base n call moments passes.0 new passes.2
    (ap (λ (f : ℕ → Option Open). f n) own.3 ∙ has) over in
    let longer : (passes.0.machine.knows n).mine ++ next.0 ≡ (old.machine.knows n).mine ++ entry ∷ next.0 =
    ap (λ list. list ++ next.0) own.0.mine ∙ append_assoc (old.machine.knows n).mine (entry ∷ []) next.0 in (
      entry ∷ next.0,
      elim next.1 [ inl is ↦ inl (sym longer ∙ is) | inr is ↦ inr (sym longer ∙ is) ],
    ))
    (λ apart.
    let is = loose_frame base (Log (Add m entry)) old passes.0 n apart passes.1 in
    finishes_by n call old passes.0 is.mine
    (finishes base n call moments passes.0 new passes.2 (is.call ∙ has) over))

-- each session with a call has at least the entries of its own that it had when it called
abbrev Grows : Stage → Type 0
Grows stage =
    (n : ℕ) (call : Open) → stage.calls n ≡ Some call
    → (more : List Entry) × ((stage.machine.knows n).mine ≡ call.old.mine ++ more)

-- so it is after a moment of another session
grows_apart : (n : ℕ) (call : Open) (old new : Stage) → Apart n old new → Grows old → new.calls n ≡ Some call
    → (more : List Entry) × ((new.machine.knows n).mine ≡ call.old.mine ++ more)
grows_apart n call old new is grows has =
    let before = grows n call (sym is.call ∙ has) in
    (before.0, is.mine ∙ before.1)

-- after a call
grows_call : (base : State) (m : ℕ) (old new : Stage) (statement : _) → Comes base (Call m statement) old new
    → Grows old → Grows new
grows_call base m old new statement comes grows n call has =
    dite (ℕ_discrete m n)
    (λ same.
    let own : Comes base (Call n statement) old new = subst (λ k. Comes base (Call k statement) old new) same comes in
    let fresh : Open = record { statement = statement; old = known_at old n } in
    let it : fresh ≡ call = same_Some fresh call
    (sym (ap (λ (s : Stage). s.calls n) own.1 ∙ changed_there old.calls n (Some fresh)) ∙ has) in (
      [],
      ap (λ (s : Stage). (s.machine.knows n).mine) own.1 ∙ ap (λ (c : Open). c.old.mine) it
          ∙ sym (append-nil call.old.mine),
    ))
    (λ apart. grows_apart n call old new (by_frame base (Call m statement) old new n apart comes) grows has)

-- after the end of a call
grows_end : (base : State) (moment : Moment) (m : ℕ) (old new : Stage) → m ≡ who moment
    → new ≡ record old { calls = changed old.calls m None } → Comes base moment old new
    → Grows old → Grows new
grows_end base moment m old new is_who is comes grows n call has =
    dite (ℕ_discrete m n)
    (λ same.
    let ended : new.calls n ≡ None = subst (λ k. new.calls k ≡ None) same
    (ap (λ (s : Stage). s.calls m) is ∙ changed_there old.calls m None) in
    absurd (none-some call (sym ended ∙ has)))
    (λ apart. grows_apart n call old new (by_frame base moment old new n (λ e. apart (is_who ∙ e)) comes) grows has)

-- after an append
grows_add : (base : State) (m : ℕ) (entry : Entry) (old new : Stage) → LooselyComes base (Log (Add m entry)) old new
    → Grows old → Grows new
grows_add base m entry old new comes grows n call has =
    dite (ℕ_discrete m n)
    (λ same.
    let own : LooselyComes base (Log (Add n entry)) old new =
    subst (λ k. LooselyComes base (Log (Add k entry)) old new) same comes in
    let before = grows n call (sym (ap (λ (f : ℕ → Option Open). f n) own.3) ∙ has) in (
      before.0 ++ entry ∷ [],
      own.0.mine ∙ ap (λ list. list ++ entry ∷ []) before.1 ∙ append_assoc call.old.mine before.0 (entry ∷ []),
    ))
    (λ apart. grows_apart n call old new (loose_frame base (Log (Add m entry)) old new n apart comes) grows has)

-- an append of a call that is over at the end is the call's own, and its first
own_append : (call : Open) (entry own : Entry) (before mine next rest : List Entry) → mine ≡ call.old.mine ++ before
    → next ≡ mine ++ entry ∷ []
    → (next ++ rest ≡ call.old.mine) ⊎ (next ++ rest ≡ call.old.mine ++ own ∷ [])
    → (entry ≡ own) × (mine ≡ call.old.mine)
own_append call entry own before mine next rest is_mine is_next ends =
    let long_mine = ap length is_mine ∙ length-append call.old.mine before in
    let long_next = ap length is_next ∙ length-append mine (entry ∷ []) in
    let long_rest = length-append next rest in
    elim ends [
      | inl none ↦ absurd (omega (arith, long_mine, long_next, long_rest, ap length none))
      | inr one ↦
          let long_one = ap length one ∙ length-append call.old.mine (own ∷ []) in
          let no_before : before ≡ [] = none_left before (omega (arith, long_mine, long_next, long_rest, long_one)) in
          let no_rest : rest ≡ [] = none_left rest (omega (arith, long_mine, long_next, long_rest, long_one)) in
          let mine_is : mine ≡ call.old.mine =
          is_mine ∙ ap (λ list. call.old.mine ++ list) no_before ∙ append-nil call.old.mine in
          let ends_so : call.old.mine ++ entry ∷ [] ≡ call.old.mine ++ own ∷ [] =
          ap (λ list. list ++ entry ∷ []) (sym mine_is) ∙ sym is_next ∙ sym (append-nil next)
          ∙ ap (λ list. next ++ list) (sym no_rest) ∙ one in
          (last_same call.old.mine entry own ends_so, mine_is)
    ]

-- a loose run in which all calls are over at the end is a run
tight : (base : State) (moments : List Moment) (old new : Stage) → Grows old
    → ((session : ℕ) → new.calls session ≡ None) → LooselyPasses base moments old new → Passes base moments old new
tight base [] old new grows over passes = passes
tight base (Call m statement ∷ moments) old new grows over passes = (
  passes.0,
  passes.1,
  tight base moments passes.0 new (grows_call base m old passes.0 statement passes.1 grows) over passes.2,
)
tight base (Return m answer ∷ moments) old new grows over passes = (
  passes.0,
  passes.1,
  tight base moments passes.0 new
      (grows_end base (Return m answer) m old passes.0 refl passes.1.3 passes.1 grows) over passes.2,
)
tight base (Fail m ∷ moments) old new grows over passes = (
  passes.0,
  passes.1,
  tight base moments passes.0 new (grows_end base (Fail m) m old passes.0 refl passes.1.3 passes.1 grows) over passes.2,
)
tight base (Log (Look m) ∷ moments) old new grows over passes = (
  passes.0,
  passes.1,
  tight base moments passes.0 new
      (λ n call has. grows_apart n call old passes.0 (look_apart base m n old passes.0 passes.1) grows has) over
      passes.2,
)
tight base (Log (Add m entry) ∷ moments) old new grows over passes =
    let comes = passes.1 in
    let call : Open = comes.1.0 in
    let before = grows m call comes.1.1 in
    let ends = finishes base m call moments passes.0 new passes.2
    (ap (λ (f : ℕ → Option Open). f m) comes.3 ∙ comes.1.1) (over m) in
    let own = own_append call entry (entry_of m call.statement) before.0 (old.machine.knows m).mine
    (passes.0.machine.knows m).mine ends.0 before.1 comes.0.mine ends.1 in (
      passes.0,
      (comes.0, (call, comes.1.1, own.0, own.1), comes.2, comes.3),
      tight base moments passes.0 new (grows_add base m entry old passes.0 comes grows) over passes.2,
    )

-- a loose run from a stage without calls to one without calls is a run
pub loose_is_tight : (base : State) (moments : List Moment) (old new : Stage)
    → ((session : ℕ) → old.calls session ≡ None) → ((session : ℕ) → new.calls session ≡ None)
    → LooselyPasses base moments old new → Passes base moments old new
loose_is_tight base moments old new none over passes =
    tight base moments old new (λ n call has. absurd (none-some call (sym (none n) ∙ has))) over passes
