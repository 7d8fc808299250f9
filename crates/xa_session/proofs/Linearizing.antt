-- Runs of the log machine are linearizable: the instant of a call is its append, or if there is none, its last look.
--     Waits, Has     an open call whose statement hasn't taken effect;  whose statement has
use Rattle.std.proofs.Common.{◌≡◌, ◌≢◌, ◌⊎◌, ℕ, Some, None, List, [], ◌∷◌, ◌++◌, refl, ap, sym, ◌∙◌, subst, inl, inr}
use Rattle.std.{proofs.Common.{arith, false}, specs.Prelude.Option}
use mathlib.Core.Logic.{dite}
use Rattle.xa_words.specs.Entry.{Entry}
use Rattle.xa_xid.specs.declared.statement.Statement.{Statement}
use Rattle.xa_server.specs.{State.State, declared.reply.Reply.Reply, Replies.reply_to, Step.enters}
use Rattle.xa_server.proofs.Entering.{unentered_leaves}
use Rattle.decision_log.specs.{declared.known.Known.Known, History.{Begins, entries_of}, Machine.{Look, Add, IsState}}
use Rattle.decision_log.proofs.Histories.{begins_itself}
use Rattle.xa_session.specs.{Replay.{state_after, state_at}, declared.answer.Answer.Answer}
use Rattle.xa_session.specs.Answer.{entry_of, IsAnswered}
use Rattle.xa_session.specs.Timed.{Moment, Call, Return, Fail, Log, Open, Stage, changed, known_at, Comes, Passes}
use Rattle.xa_session.specs.Linear.{Client, Idle, Called, Answered, Serves, sights, IsLinearized, over, called, taken}
use Rattle.xa_session.{specs.Linear.{returned, failed}, proofs.Replaying.{state_at-whole, state_after-last}}
use Rattle.xa_session.proofs.Moments.{who, either, changed_there, changed_other, frame, state_comes}
use Rattle.xa_session.proofs.Futures.{Soon, Late, Ends, soon_or_late, late_after, ends_after, soon_ends, soon_answered}
use Rattle.xa_session.proofs.Appended.{Appended, appended_ends, grown}
use native.Mathlib.Decide.{ℕ_discrete}

-- the call's statement hasn't taken effect: nothing was appended, and the call won't return before it looks or appends
-- again, or it hasn't looked yet
pub record Waits (n : ℕ) (call : Open) (known : Known) (client : Client) (moments : List Moment) : Type 0 where
  pub is : client ≡ Called call.statement
  pub mine : known.mine ≡ call.old.mine
  pub next : Late n moments ⊎ (known.looks ≡ call.old.looks)

-- the call's statement has taken effect, and the call ends with this reply
pub record Has (n : ℕ) (client : Client) (moments : List Moment) : Type 0 where
  pub reply : Reply
  pub is : client ≡ Answered reply
  pub ends : Ends n reply moments

-- a session has no call, or its call waits, or it has its reply
abbrev pub Stand : ℕ → Option Open → Known → Client → List Moment → Type 0
Stand n None known client moments = client ≡ Idle
Stand n (Some call) known client moments = Waits n call known client moments ⊎ Has n client moments

-- it stands so after a moment of another session
stand_after : (n : ℕ) (o : Option Open) (known : Known) (client : Client) (moment : Moment) (moments : List Moment)
    → who moment ≢ n
    → Stand n o known client (moment ∷ moments) → Stand n o known client moments
stand_after n None known client moment moments apart stand = stand
stand_after n (Some call) known client moment moments apart (inl w) =
    inl
    (record {
      is = w.is;
      mine = w.mine;
      next = elim w.next [ inl late ↦ inl (late_after n moment moments apart late) | inr looks ↦ inr looks ];
    })
stand_after n (Some call) known client moment moments apart (inr h) =
    inr (record { reply = h.reply; is = h.is; ends = ends_after n h.reply moment moments apart h.ends })

-- it stands so with equal values
stand_of : (n : ℕ) (o o' : Option Open) (known known' : Known) (client client' : Client) (moments : List Moment)
    → o' ≡ o → known' ≡ known → client' ≡ client
    → Stand n o known client moments → Stand n o' known' client' moments
stand_of n o o' known known' client client' moments same_o same_k same_c stand =
    subst (λ x. Stand n x known' client' moments) (sym same_o)
    (subst (λ x. Stand n o x client' moments) (sym same_k)
    (subst (λ x. Stand n o known x moments) (sym same_c) stand))

-- after a moment all sessions stand so, if the one whose moment it is does, and the other clients are as before
stands_next : (base : State) (moment : Moment) (moments : List Moment) (old new : Stage) (clients clients' : ℕ → Client)
    → Comes base moment old new
    → ((n : ℕ) → n ≢ who moment → clients' n ≡ clients n)
    → ((n : ℕ) → Stand n (old.calls n) (known_at old n) (clients n) (moment ∷ moments))
    → Stand (who moment) (new.calls (who moment)) (known_at new (who moment)) (clients' (who moment)) moments
    → (n : ℕ) → Stand n (new.calls n) (known_at new n) (clients' n) moments
stands_next base moment moments old new clients clients' comes others stands own n =
    dite (ℕ_discrete n (who moment))
    (λ same. subst (λ k. Stand k (new.calls k) (known_at new k) (clients' k) moments) (sym same) own)
    (λ apart.
    let leaves = frame base moment old new n (λ e. apart (sym e)) comes in
    stand_of n (old.calls n) (new.calls n) (known_at old n) (known_at new n) (clients n) (clients' n) moments
    leaves.call leaves.known (others n apart)
    (stand_after n (old.calls n) (known_at old n) (clients n) moment moments (λ e. apart (sym e)) (stands n)))

-- a call that appended nothing and is answered by what its session knows now: its statement isn't logged at the end of
-- that, and its reply is the server's there
record Outside (base : State) (call : Open) (answer : Answer) (n : ℕ) (seen : List Entry) : Type 0 where
  leaves : enters (state_after base seen) n call.statement ≡ false
  reply : answer.reply ≡ reply_to (state_after base seen) n call.statement

outside_of : (base : State) (call : Open) (answer : Answer) (n : ℕ) (known : Known) → n ≡ call.old.number
    → known.mine ≡ call.old.mine
    → IsAnswered base call.statement answer call.old known → Outside base call answer n known.seen
outside_of base call answer n known number mine answered =
    elim (either (enters (state_at base known.seen answer.place) call.old.number call.statement)) [
      | inl is_in ↦ absurd
          (grown call.old.mine known.mine (entry_of call.old.number call.statement) mine (answered.entered is_in).mine)
      | inr is_out ↦
          let there : state_at base known.seen answer.place ≡ state_after base known.seen =
          ap (state_at base known.seen) (sym (answered.outside is_out).whole) ∙ state_at-whole base known.seen in
          record {
            leaves = ap (λ k. enters (state_after base known.seen) k call.statement) number
                ∙ ap (λ s. enters s call.old.number call.statement) (sym there) ∙ is_out;
            reply = answered.at.reply_is ∙ ap (λ s. reply_to s call.old.number call.statement) there
                ∙ ap (λ k. reply_to (state_after base known.seen) k call.statement) (sym number);
          }
    ]

-- what is left to show of the moments after this one
abbrev Rest : State → List Moment → Stage → Type 0
Rest base moments next =
    (clients : ℕ → Client) → IsState next.machine
    → ((n : ℕ) → Stand n (next.calls n) (known_at next n) (clients n) moments)
    → Serves (state_after base next.machine.history) clients (sights moments)

-- all sessions stand as they are to
abbrev Stands : Stage → (ℕ → Client) → List Moment → Type 0
Stands stage clients moments = (n : ℕ) → Stand n (stage.calls n) (known_at stage n) (clients n) moments

-- a call
serves_call : (base : State) (m : ℕ) (statement : Statement) (moments : List Moment) (old next : Stage)
    (clients : ℕ → Client)
    → IsState old.machine → Comes base (Call m statement) old next
    → Stands old clients (Call m statement ∷ moments) → Rest base moments next
    → Serves (state_after base old.machine.history) clients (sights (Call m statement ∷ moments))
serves_call base m statement moments old next clients state comes stands rest =
    let idle : clients m ≡ Idle =
    subst (λ o. Stand m o (known_at old m) (clients m) (Call m statement ∷ moments)) comes.0 (stands m) in
    let open_call : Open = record { statement = statement; old = known_at old m } in
    let clients' : ℕ → Client = changed clients m (Called statement) in
    let own : Stand m (next.calls m) (known_at next m) (clients' m) moments =
    stand_of m (Some open_call) (next.calls m) (known_at old m) (known_at next m) (Called statement) (clients' m)
    moments
    (ap (λ (s : Stage). s.calls m) comes.1 ∙ changed_there old.calls m (Some open_call))
    (ap (λ s. known_at s m) comes.1) (changed_there clients m (Called statement))
    (inl (record { is = refl; mine = refl; next = inr refl })) in
    called idle
    (subst (λ list. Serves (state_after base list) clients' (sights moments))
    (ap (λ (s : Stage). s.machine.history) comes.1)
    (rest clients' (state_comes base (Call m statement) old next comes state)
    (stands_next base (Call m statement) moments old next clients clients' comes
    (λ n apart. changed_other clients m n (Called statement) apart) stands own)))

-- the moment at which a call ends, by a return or a fault: the session has no call
serves_end : (base : State) (moment : Moment) (m : ℕ) (moments : List Moment) (old next : Stage)
    (clients : ℕ → Client) → m ≡ who moment
    → next ≡ record old { calls = changed old.calls m None }
    → IsState old.machine → Comes base moment old next
    → Stands old clients (moment ∷ moments) → Rest base moments next
    → Serves (state_after base old.machine.history) (changed clients m Idle) (sights moments)
serves_end base moment m moments old next clients same is state comes stands rest =
    let clients' : ℕ → Client = changed clients m Idle in
    let own : Stand m (next.calls m) (known_at next m) (clients' m) moments =
    stand_of m None (next.calls m) (known_at old m) (known_at next m) Idle (clients' m) moments
    (ap (λ (s : Stage). s.calls m) is ∙ changed_there old.calls m None)
    (ap (λ s. known_at s m) is) (changed_there clients m Idle) refl in
    subst (λ list. Serves (state_after base list) clients' (sights moments))
    (ap (λ (s : Stage). s.machine.history) is)
    (rest clients' (state_comes base moment old next comes state)
    (stands_next base moment moments old next clients clients' comes
    (λ n apart. changed_other clients m n Idle (λ e. apart (e ∙ same))) stands
    (subst (λ k. Stand k (next.calls k) (known_at next k) (clients' k) moments) same own)))

-- a return
serves_return : (base : State) (m : ℕ) (answer : Answer) (moments : List Moment) (old next : Stage)
    (clients : ℕ → Client)
    → IsState old.machine → Comes base (Return m answer) old next
    → Stands old clients (Return m answer ∷ moments) → Rest base moments next
    → Serves (state_after base old.machine.history) clients (sights (Return m answer ∷ moments))
serves_return base m answer moments old next clients state comes stands rest =
    let stand : Stand m (Some comes.0) (known_at old m) (clients m) (Return m answer ∷ moments) =
    subst (λ o. Stand m o (known_at old m) (clients m) (Return m answer ∷ moments)) comes.1 (stands m) in
    elim stand [
      | inl w ↦ elim w.next [
        | inl late ↦ absurd (late.0 refl)
        | inr looks ↦ let more = comes.2.looked in absurd (omega arith)
      ]
      | inr h ↦ returned (h.is ∙ ap Answered (sym (h.ends.0 refl)))
          (serves_end base (Return m answer) m moments old next clients refl comes.3 state comes stands rest)
    ]

-- a fault
serves_fail : (base : State) (m : ℕ) (moments : List Moment) (old next : Stage) (clients : ℕ → Client)
    → IsState old.machine → Comes base (Fail m) old next
    → Stands old clients (Fail m ∷ moments) → Rest base moments next
    → Serves (state_after base old.machine.history) clients (sights (Fail m ∷ moments))
serves_fail base m moments old next clients state comes stands rest =
    let stand : Stand m (Some comes.0) (known_at old m) (clients m) (Fail m ∷ moments) =
    subst (λ o. Stand m o (known_at old m) (clients m) (Fail m ∷ moments)) comes.1 (stands m) in
    elim stand [
      | inl w ↦ failed w.is
          (serves_end base (Fail m) m moments old next clients refl comes.3 state comes stands rest)
      | inr h ↦ absurd (h.ends.0 refl)
    ]

-- a look, by whether its session has a call
serves_look : (base : State) (m : ℕ) (moments : List Moment) (old next new : Stage) (clients : ℕ → Client)
    (o : Option Open) → old.calls m ≡ o
    → IsState old.machine → Comes base (Log (Look m)) old next → Passes base moments next new
    → Stands old clients (Log (Look m) ∷ moments) → Rest base moments next
    → Serves (state_after base old.machine.history) clients (sights moments)
serves_look base m moments old next new clients None has state comes passes stands rest =
    let idle : Stand m None (known_at old m) (clients m) (Log (Look m) ∷ moments) =
    subst (λ o. Stand m o (known_at old m) (clients m) (Log (Look m) ∷ moments)) has (stands m) in
    let own : Stand m (next.calls m) (known_at next m) (clients m) moments =
    subst (λ o. Stand m o (known_at next m) (clients m) moments)
    (sym (ap (λ (f : ℕ → Option Open). f m) comes.3 ∙ has)) idle in
    subst (λ list. Serves (state_after base list) clients (sights moments)) comes.0.history
    (rest clients (state_comes base (Log (Look m)) old next comes state)
    (stands_next base (Log (Look m)) moments old next clients clients comes (λ n apart. refl) stands own))
serves_look base m moments old next new clients (Some call) has state comes passes stands rest =
    let same_call : next.calls m ≡ Some call = ap (λ (f : ℕ → Option Open). f m) comes.3 ∙ has in
    let state' : IsState next.machine = state_comes base (Log (Look m)) old next comes state in
    let stand : Stand m (Some call) (known_at old m) (clients m) (Log (Look m) ∷ moments) =
    subst (λ o. Stand m o (known_at old m) (clients m) (Log (Look m) ∷ moments)) has (stands m) in
    let stays : Stand m (Some call) (known_at next m) (clients m) moments
    → Serves (state_after base old.machine.history) clients (sights moments) =
    λ own. subst (λ list. Serves (state_after base list) clients (sights moments)) comes.0.history
    (rest clients state'
    (stands_next base (Log (Look m)) moments old next clients clients comes (λ n apart. refl) stands
    (subst (λ o. Stand m o (known_at next m) (clients m) moments) (sym same_call) own))) in
    elim stand [
      | inl w ↦ elim (soon_or_late m moments) [
        | inl soon ↦
            takes_at_look base m moments old next clients call soon.0 same_call state' comes stands rest w.is
            (comes.0.mine ∙ w.mine) soon.1 (soon_answered base m soon.0 moments next new call soon.1 passes same_call)
        | inr late ↦ stays (inl (record { is = w.is; mine = comes.0.mine ∙ w.mine; next = inl late }))
      ]
      | inr h ↦ stays (inr (record { reply = h.reply; is = h.is; ends = h.ends }))
    ]
  where
    -- the last look of a call that appends nothing is its instant
    takes_at_look : (base : State) (m : ℕ) (moments : List Moment) (old next : Stage) (clients : ℕ → Client)
        (call : Open) (answer : Answer) → next.calls m ≡ Some call
        → IsState next.machine → Comes base (Log (Look m)) old next
        → Stands old clients (Log (Look m) ∷ moments) → Rest base moments next
        → clients m ≡ Called call.statement → (next.machine.knows m).mine ≡ call.old.mine
        → Soon m answer moments
        → IsAnswered base call.statement answer call.old (known_at next m)
        → Serves (state_after base old.machine.history) clients (sights moments)
    takes_at_look base m moments old next clients call answer has state comes stands rest client mine soon answered =
        let here : State = state_after base old.machine.history in
        let outside : Outside base call answer m old.machine.history =
        subst (λ list. Outside base call answer m list) comes.0.seen
        (outside_of base call answer m (known_at next m) answered.advances.number mine answered) in
        let clients' : ℕ → Client = changed clients m (Answered (reply_to here m call.statement)) in
        let own : Stand m (next.calls m) (known_at next m) (clients' m) moments =
        subst (λ o. Stand m o (known_at next m) (clients' m) moments) (sym has)
        (inr (record {
          reply = reply_to here m call.statement;
          is = changed_there clients m (Answered (reply_to here m call.statement));
          ends = subst (λ r. Ends m r moments) outside.reply (soon_ends m answer moments soon);
        })) in
        taken m call.statement client
        (subst (λ s. Serves s clients' (sights moments)) (sym (unentered_leaves here m call.statement outside.leaves))
        (subst (λ list. Serves (state_after base list) clients' (sights moments)) comes.0.history
        (rest clients' state
        (stands_next base (Log (Look m)) moments old next clients clients' comes
        (λ n apart. changed_other clients m n (Answered (reply_to here m call.statement)) apart) stands own))))

-- an append is the instant of its call
serves_add : (base : State) (m : ℕ) (entry : Entry) (moments : List Moment) (old next new : Stage)
    (clients : ℕ → Client)
    → IsState old.machine → Comes base (Log (Add m entry)) old next → Passes base moments next new
    → Stands old clients (Log (Add m entry) ∷ moments) → Rest base moments next
    → Serves (state_after base old.machine.history) clients (sights moments)
serves_add base m entry moments old next new clients state comes passes stands rest =
    let call : Open = comes.1.0 in
    let own_entry : Entry = entry_of m call.statement in
    let here : State = state_after base old.machine.history in
    let reply : Reply = reply_to here m call.statement in
    let clients' : ℕ → Client = changed clients m (Answered reply) in
    let same_call : next.calls m ≡ Some call = ap (λ (f : ℕ → Option Open). f m) comes.3 ∙ comes.1.1 in
    let state' : IsState next.machine = state_comes base (Log (Add m entry)) old next comes state in
    let history : next.machine.history ≡ old.machine.history ++ own_entry ∷ [] =
    comes.0.history ∙ ap (λ e. old.machine.history ++ e ∷ []) comes.1.2 in
    let stand : Stand m (Some call) (known_at old m) (clients m) (Log (Add m entry) ∷ moments) =
    subst (λ o. Stand m o (known_at old m) (clients m) (Log (Add m entry) ∷ moments)) comes.1.1 (stands m) in
    let appended : Appended m old.machine.history call next = record {
      has = same_call;
      begins = subst (λ list. Begins list next.machine.history) history (begins_itself next.machine.history);
      mine = comes.0.mine ∙ ap (λ e. (old.machine.knows m).mine ++ e ∷ []) comes.1.2
          ∙ ap (λ list. list ++ own_entry ∷ []) comes.1.3;
      own = subst (λ list. entries_of m list ≡ (next.machine.knows m).mine) history (state'.mine m);
    } in
    let own : Stand m (next.calls m) (known_at next m) (clients' m) moments =
    subst (λ o. Stand m o (known_at next m) (clients' m) moments) (sym same_call)
    (inr (record {
      reply = reply;
      is = changed_there clients m (Answered reply);
      ends = appended_ends base m old.machine.history call moments next new state' appended passes;
    })) in
    elim stand [
      | inl w ↦ taken m call.statement w.is
          (subst (λ s. Serves s clients' (sights moments))
          (ap (state_after base) history ∙ state_after-last base old.machine.history own_entry)
          (rest clients' state'
          (stands_next base (Log (Add m entry)) moments old next clients clients' comes
          (λ n apart. changed_other clients m n (Answered reply) apart) stands own)))
      | inr h ↦ absurd (h.ends.0 refl)
    ]

-- the sequential server serves what callers see of the moments, if all sessions stand as they are to
serves : (base : State) (moments : List Moment) (old new : Stage) (clients : ℕ → Client) → IsState old.machine
    → Stands old clients moments → Passes base moments old new
    → Serves (state_after base old.machine.history) clients (sights moments)
serves base [] old new clients state stands passes = over
serves base (Call m statement ∷ moments) old new clients state stands passes =
    serves_call base m statement moments old passes.0 clients state passes.1 stands
    (λ next_clients next_state next_stands. serves base moments passes.0 new next_clients next_state next_stands
    passes.2)
serves base (Return m answer ∷ moments) old new clients state stands passes =
    serves_return base m answer moments old passes.0 clients state passes.1 stands
    (λ next_clients next_state next_stands. serves base moments passes.0 new next_clients next_state next_stands
    passes.2)
serves base (Fail m ∷ moments) old new clients state stands passes =
    serves_fail base m moments old passes.0 clients state passes.1 stands
    (λ next_clients next_state next_stands. serves base moments passes.0 new next_clients next_state next_stands
    passes.2)
serves base (Log (Look m) ∷ moments) old new clients state stands passes =
    serves_look base m moments old passes.0 new clients (old.calls m) refl state passes.1 passes.2 stands
    (λ next_clients next_state next_stands. serves base moments passes.0 new next_clients next_state next_stands
    passes.2)
serves base (Log (Add m entry) ∷ moments) old new clients state stands passes =
    serves_add base m entry moments old passes.0 new clients state passes.1 passes.2 stands
    (λ next_clients next_state next_stands. serves base moments passes.0 new next_clients next_state next_stands
    passes.2)

-- every run in which no session has a call at the beginning is linearizable
pub runs_are_linearized : (base : State) (moments : List Moment) (old new : Stage) → IsState old.machine
    → ((session : ℕ) → old.calls session ≡ None)
    → Passes base moments old new
    → IsLinearized (state_after base old.machine.history) (sights moments)
runs_are_linearized base moments old new state none passes =
    serves base moments old new (λ n. Idle) state
    (λ n. subst (λ o. Stand n o (known_at old n) Idle moments) (sym (none n)) refl) passes
