-- A call that has appended its statement ends with the reply of the server right before that entry.
use Rattle.std.proofs.Common.{◌≡◌, ◌≢◌, ℕ, ◌+◌, ◌≤◌, Some, None, List, [], ◌∷◌, ◌++◌, length, take, drop, refl, ap, sym}
use Rattle.std.proofs.{Common.{◌∙◌, subst, inl, inr, arith, length-append}, lemmas.Bool.cases_lt}
use Rattle.std.proofs.lemmas.Option.{none-some, same_Some}
use mathlib.Core.Logic.{dite}
use Rattle.xa_words.specs.Entry.{Entry}
use Rattle.xa_server.specs.{State.State, Replies.reply_to, Step.enters}
use Rattle.decision_log.specs.{History.{Begins, entries_of}, Machine.{Look, Add, IsState}}
use Rattle.decision_log.proofs.Histories.{begins_itself, begins_append, begins_through, begins_same, begins_between}
use Rattle.decision_log.proofs.Histories.{behind, own_append, own_last}
use Rattle.xa_session.{specs.{Replay.{state_after, state_at}, declared.answer.Answer.Answer}, proofs.Futures.Ends}
use Rattle.xa_session.{specs.Answer.{entry_of, IsAnswered}, proofs.Moments.{who, either, frame, state_comes}}
use Rattle.xa_session.specs.Timed.{Moment, Call, Return, Fail, Log, Open, Stage, known_at, Comes, Passes}
use native.Mathlib.Decide.{ℕ_discrete}

-- a list isn't the same list with an element more
pub grown : (xs ys : List Entry) (entry : Entry) → ys ≡ xs → ys ≡ xs ++ entry ∷ [] → ⊥
grown xs ys entry same more = omega (arith, ap length same, ap length more, length-append xs (entry ∷ []))

-- a prefix has no more entries of a session
own_fewer : (n : ℕ) (xs ys : List Entry) → Begins xs ys → length (entries_of n xs) ≤ length (entries_of n ys)
own_fewer n xs ys is =
    let whole : entries_of n ys ≡ entries_of n xs ++ entries_of n (drop (length xs) ys) =
    ap (entries_of n) (sym (behind xs ys is)) ∙ own_append n xs (drop (length xs) ys) in
    omega (arith, ap length whole, length-append (entries_of n xs) (entries_of n (drop (length xs) ys)))

-- two prefixes of one history have all entries of a session, and each ends with one of them: they are the same
last_is : (n : ℕ) (xs seen log mine : List Entry) (e f : Entry) (place : ℕ) → e.session ≡ n → f.session ≡ n
    → Begins (xs ++ e ∷ []) log → Begins seen log
    → entries_of n (xs ++ e ∷ []) ≡ mine → entries_of n seen ≡ mine
    → seen ≡ take place seen ++ f ∷ []
    → take place seen ≡ xs
last_is n xs seen log mine e f place own_e own_f before begins part own ends =
    let t = take place seen in
    let whole : Begins (xs ++ e ∷ []) log = before in
    let longer : length seen ≡ length t + 1 = ap length ends ∙ length-append t (f ∷ []) in
    let long_x : length (xs ++ e ∷ []) ≡ length xs + 1 = length-append xs (e ∷ []) in
    let there : Begins t log =
    begins_through t seen log (subst (λ list. Begins t list) (sym ends) (begins_append t (f ∷ []))) begins in
    let first : Begins xs log = begins_through xs (xs ++ e ∷ []) log (begins_append xs (e ∷ [])) before in
    let own_t : length mine ≡ length (entries_of n t) + 1 =
    ap length (sym own ∙ ap (entries_of n) ends ∙ own_last n t f own_f) ∙ length-append (entries_of n t) (f ∷ []) in
    let own_x : length mine ≡ length (entries_of n xs) + 1 =
    ap length (sym part ∙ own_last n xs e own_e) ∙ length-append (entries_of n xs) (e ∷ []) in
    let own_xe : length (entries_of n (xs ++ e ∷ [])) ≡ length mine = ap length part in
    let own_s : length (entries_of n seen) ≡ length mine = ap length own in
    elim (cases_lt (length xs) (length t)) [
      | inl more ↦
          let fewer = own_fewer n (xs ++ e ∷ []) t (begins_between (xs ++ e ∷ []) t log whole there (omega arith)) in
          absurd (omega arith)
      | inr less ↦ elim (cases_lt (length t) (length xs)) [
        | inl short ↦
            let fewer = own_fewer n seen xs (begins_between seen xs log begins first (omega arith)) in
            absurd (omega arith)
        | inr long ↦ begins_same t xs (begins_between t xs log there first less) long
      ]
    ]

-- the session's call has appended its statement, right after this history, and nothing else
pub record Appended (n : ℕ) (history : List Entry) (call : Open) (stage : Stage) : Type 0 where
  pub has : stage.calls n ≡ Some call
  pub begins : Begins (history ++ entry_of n call.statement ∷ []) stage.machine.history
  pub mine : (stage.machine.knows n).mine ≡ call.old.mine ++ entry_of n call.statement ∷ []
  pub own : entries_of n (history ++ entry_of n call.statement ∷ []) ≡ (stage.machine.knows n).mine

-- if the call returns an answer, as the session theorem says, it has the reply of the server before that entry
appended_reply : (base : State) (n : ℕ) (history : List Entry) (call : Open) (stage : Stage) (answer : Answer)
    → IsState stage.machine → Appended n history call stage
    → IsAnswered base call.statement answer call.old (known_at stage n)
    → answer.reply ≡ reply_to (state_after base history) n call.statement
appended_reply base n history call stage answer state is answered =
    let seen = (stage.machine.knows n).seen in
    let number : n ≡ call.old.number = answered.advances.number in
    elim (either (enters (state_at base seen answer.place) call.old.number call.statement)) [
      | inl is_in ↦
          let same = last_is n history seen stage.machine.history (stage.machine.knows n).mine
          (entry_of n call.statement) (entry_of call.old.number call.statement) answer.place refl (sym number)
          is.begins (state.seen n) is.own (state.part n) (answered.entered is_in).seen in
          answered.at.reply_is
          ∙ ap (λ k. reply_to (state_at base seen answer.place) k call.statement) (sym number)
          ∙ ap (λ list. reply_to (state_after base list) n call.statement) same
      | inr is_out ↦ absurd
          (grown call.old.mine (stage.machine.knows n).mine (entry_of n call.statement)
          (answered.outside is_out).mine is.mine)
    ]

-- the history never loses an entry
grows : (base : State) (moment : Moment) (old new : Stage) → Comes base moment old new
    → Begins old.machine.history new.machine.history
grows base (Call m statement) old new comes =
    subst (λ (s : Stage). Begins old.machine.history s.machine.history) (sym comes.1)
    (begins_itself old.machine.history)
grows base (Return m answer) old new comes =
    subst (λ (s : Stage). Begins old.machine.history s.machine.history) (sym comes.3)
    (begins_itself old.machine.history)
grows base (Fail m) old new comes =
    subst (λ (s : Stage). Begins old.machine.history s.machine.history) (sym comes.3)
    (begins_itself old.machine.history)
grows base (Log (Look m)) old new comes =
    subst (λ list. Begins old.machine.history list) (sym comes.0.history) (begins_itself old.machine.history)
grows base (Log (Add m entry)) old new comes =
    subst (λ list. Begins old.machine.history list) (sym comes.0.history)
    (begins_append old.machine.history (entry ∷ []))

-- so it is after a moment that leaves the session's own entries and its call
appended_by : (base : State) (moment : Moment) (n : ℕ) (history : List Entry) (call : Open) (old new : Stage)
    → Comes base moment old new
    → (new.machine.knows n).mine ≡ (old.machine.knows n).mine → new.calls n ≡ old.calls n
    → Appended n history call old → Appended n history call new
appended_by base moment n history call old new comes mine same is = record {
  has = same ∙ is.has;
  begins = begins_through (history ++ entry_of n call.statement ∷ []) old.machine.history new.machine.history is.begins
      (grows base moment old new comes);
  mine = mine ∙ is.mine;
  own = is.own ∙ sym mine;
}

-- so it is after a moment of another session
appended_frame : (base : State) (moment : Moment) (n : ℕ) (history : List Entry) (call : Open) (old new : Stage)
    → who moment ≢ n
    → Comes base moment old new
    → Appended n history call old → Appended n history call new
appended_frame base moment n history call old new apart comes is =
    let leaves = frame base moment old new n apart comes in
    appended_by base moment n history call old new comes (ap (λ (k : _). k.mine) leaves.known) leaves.call is

-- so it is after any look
appended_look : (base : State) (m n : ℕ) (history : List Entry) (call : Open) (old new : Stage)
    → Comes base (Log (Look m)) old new
    → Appended n history call old → Appended n history call new
appended_look base m n history call old new comes is =
    dite (ℕ_discrete m n)
    (λ same.
    let own : Comes base (Log (Look n)) old new = subst (λ k. Comes base (Log (Look k)) old new) same comes in
    appended_by base (Log (Look n)) n history call old new own own.0.mine (ap (λ (f : _). f n) own.3) is)
    (λ apart. appended_frame base (Log (Look m)) n history call old new apart comes is)

-- such a call ends with the server's reply before that entry, and appends nothing more
pub appended_ends : (base : State) (n : ℕ) (history : List Entry) (call : Open) (moments : List Moment)
    (old new : Stage)
    → IsState old.machine → Appended n history call old → Passes base moments old new
    → Ends n (reply_to (state_after base history) n call.statement) moments
appended_ends base n history call [] old new state is passes = tt
appended_ends base n history call (Call m statement ∷ moments) old new state is passes =
    let apart : m ≢ n = λ same. none-some call (sym (subst (λ k. old.calls k ≡ None) same passes.1.0) ∙ is.has) in
    appended_ends base n history call moments passes.0 new
    (state_comes base (Call m statement) old passes.0 passes.1 state)
    (appended_frame base (Call m statement) n history call old passes.0 apart passes.1 is) passes.2
appended_ends base n history call (Return m answer ∷ moments) old new state is passes = (
  (λ same.
      let own : Comes base (Return n answer) old passes.0 =
      subst (λ k. Comes base (Return k answer) old passes.0) same passes.1 in
      appended_reply base n history call old answer state is
      (subst (λ (c : Open). IsAnswered base c.statement answer c.old (known_at old n))
      (same_Some own.0 call (sym own.1 ∙ is.has)) own.2)),
  (λ apart. appended_ends base n history call moments passes.0 new
      (state_comes base (Return m answer) old passes.0 passes.1 state)
      (appended_frame base (Return m answer) n history call old passes.0 apart passes.1 is) passes.2),
)
appended_ends base n history call (Fail m ∷ moments) old new state is passes =
    let apart : m ≢ n = λ same.
    let own : Comes base (Fail n) old passes.0 = subst (λ k. Comes base (Fail k) old passes.0) same passes.1 in
    let it : own.0 ≡ call = same_Some own.0 call (sym own.1 ∙ is.has) in
    grown call.old.mine (old.machine.knows n).mine (entry_of n call.statement)
    (own.2.mine ∙ ap (λ (c : Open). c.old.mine) it) is.mine in (
      apart,
      appended_ends base n history call moments passes.0 new
          (state_comes base (Fail m) old passes.0 passes.1 state)
          (appended_frame base (Fail m) n history call old passes.0 apart passes.1 is) passes.2,
    )
appended_ends base n history call (Log (Look m) ∷ moments) old new state is passes =
    appended_ends base n history call moments passes.0 new
    (state_comes base (Log (Look m)) old passes.0 passes.1 state)
    (appended_look base m n history call old passes.0 passes.1 is) passes.2
appended_ends base n history call (Log (Add m entry) ∷ moments) old new state is passes =
    let apart : m ≢ n = λ same.
    let own : Comes base (Log (Add n entry)) old passes.0 =
    subst (λ k. Comes base (Log (Add k entry)) old passes.0) same passes.1 in
    let it : own.1.0 ≡ call = same_Some own.1.0 call (sym own.1.1 ∙ is.has) in
    grown call.old.mine (old.machine.knows n).mine (entry_of n call.statement)
    (own.1.3 ∙ ap (λ (c : Open). c.old.mine) it) is.mine in (
      apart,
      appended_ends base n history call moments passes.0 new
          (state_comes base (Log (Add m entry)) old passes.0 passes.1 state)
          (appended_frame base (Log (Add m entry)) n history call old passes.0 apart passes.1 is) passes.2,
    )
