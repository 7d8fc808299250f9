-- Calls that come one after another take effect one after another: what `Serves` says of them.
--     AllIdle, OneCalled, OneAnswered      no session has a call;  one has called;  one has its reply
use Rattle.std.proofs.Common.{◌≡◌, ◌≢◌, ℕ, List, [], ◌∷◌, refl, ap, sym, ◌∙◌, subst}
use mathlib.Core.{Path.fun_ext, Logic.dite}
use Rattle.xa_xid.specs.declared.statement.Statement.{Statement}
use Rattle.xa_server.specs.{State.State, Step.after, Replies.reply_to, declared.reply.Reply.Reply}
use Rattle.xa_session.specs.{Timed.changed, Linear.{Sight, Call, Return, Fail, Client, Idle, Called, Answered, Serves}}
use Rattle.xa_session.specs.Linear.{IsLinearized, over, called, taken, returned, failed}
use Rattle.xa_session.proofs.Moments.{changed_there, changed_other}
use native.Mathlib.Decide.{ℕ_discrete}

-- which of the three a client is
abbrev Is : Client → Client → Type 0
Is Idle Idle = Unit {0}
Is (Called one) (Called other) = one ≡ other
Is (Answered one) (Answered other) = one ≡ other
Is one other = ⊥

is_of : (one other : Client) → one ≡ other → Is one other
is_of one other same = subst (λ c. Is one c) same (itself one)
  where
    itself : (one : Client) → Is one one
    itself Idle = tt
    itself (Called statement) = refl
    itself (Answered reply) = refl

-- which sight comes first
abbrev First : List Sight → List Sight → Type 0
First (Call m statement ∷ rest) (Call n other ∷ more) = (m ≡ n) × (statement ≡ other) × (rest ≡ more)
First (Return m reply ∷ rest) (Return n other ∷ more) = (m ≡ n) × (reply ≡ other) × (rest ≡ more)
First (Fail m ∷ rest) (Fail n ∷ more) = (m ≡ n) × (rest ≡ more)
First [] [] = Unit {0}
First one other = ⊥

first_of_both : (one other : List Sight) → one ≡ other → First one other
first_of_both one other same = subst (λ s. First one s) same (itself one)
  where
    itself : (one : List Sight) → First one one
    itself [] = tt
    itself (Call m statement ∷ rest) = (refl, refl, refl)
    itself (Return m reply ∷ rest) = (refl, refl, refl)
    itself (Fail m ∷ rest) = (refl, refl)

-- no session has a call
abbrev AllIdle : (ℕ → Client) → Type 0
AllIdle clients = (n : ℕ) → clients n ≡ Idle

-- this session alone is so, and the others are idle
abbrev Alone : (ℕ → Client) → ℕ → Client → Type 0
Alone clients m client = (clients m ≡ client) × ((n : ℕ) → n ≢ m → clients n ≡ Idle)

-- if the others are idle, a changed session alone is so
alone_changed : (clients : ℕ → Client) (m : ℕ) (client : Client) → ((n : ℕ) → n ≢ m → clients n ≡ Idle)
    → Alone (changed clients m client) m client
alone_changed clients m client others =
    (changed_there clients m client, (λ n apart. changed_other clients m n client apart ∙ others n apart))

-- if a session alone is idle, all are
all_idle : (clients : ℕ → Client) (m : ℕ) → Alone clients m Idle → AllIdle clients
all_idle clients m alone n =
    dite (ℕ_discrete n m) (λ same. ap clients same ∙ alone.0) (λ apart. alone.1 n apart)

-- if one session alone has called, who has called is that session, and its statement is the one
who_called : (clients : ℕ → Client) (m n : ℕ) (statement other : Statement) → Alone clients m (Called statement)
    → clients n ≡ Called other
    → (n ≡ m) × (statement ≡ other)
who_called clients m n statement other alone is =
    dite (ℕ_discrete n m)
    (λ same. (same, is_of (Called statement) (Called other) (sym alone.0 ∙ sym (ap clients same) ∙ is)))
    (λ apart. absurd (is_of Idle (Called other) (sym (alone.1 n apart) ∙ is)))

-- what begins with a call, if no session has one: then that session alone has called
calls_first : {state : State} {clients : ℕ → Client} {seen : List Sight} (m : ℕ) (statement : Statement)
    (rest : List Sight) → Serves state clients seen → AllIdle clients
    → seen ≡ Call m statement ∷ rest
    → (next : ℕ → Client) × Alone next m (Called statement) × Serves state next rest
calls_first m statement rest over idle is = absurd (first_of_both [] (Call m statement ∷ rest) is)
calls_first m statement rest
    (called {state = state} {clients = clients} {session = n} {statement = other} {rest = more} free inner) idle is =
    let same = first_of_both (Call n other ∷ more) (Call m statement ∷ rest) is in (
      changed clients n (Called other),
      subst (λ k. Alone (changed clients n (Called other)) k (Called statement)) same.0
          (subst (λ s. Alone (changed clients n (Called other)) n (Called s)) same.1
          (alone_changed clients n (Called other) (λ k apart. idle k))),
      subst (λ list. Serves state (changed clients n (Called other)) list) same.2 inner,
    )
calls_first m statement rest (taken n other has inner) idle is =
    absurd (is_of Idle (Called other) (sym (idle n) ∙ has))
calls_first m statement rest (returned {session = n} {reply = reply} {rest = more} has inner) idle is =
    absurd (first_of_both (Return n reply ∷ more) (Call m statement ∷ rest) is)
calls_first m statement rest (failed {session = n} {rest = more} has inner) idle is =
    absurd (first_of_both (Fail n ∷ more) (Call m statement ∷ rest) is)

-- the return of a session that alone has its reply: it is that reply, and no session has a call then
returns_answered : {state : State} {clients : ℕ → Client} {seen : List Sight} (m : ℕ) (its reply : Reply)
    (rest : List Sight) → Serves state clients seen → Alone clients m (Answered its)
    → seen ≡ Return m reply ∷ rest
    → (reply ≡ its) × (next : ℕ → Client) × AllIdle next × Serves state next rest
returns_answered m its reply rest over alone is = absurd (first_of_both [] (Return m reply ∷ rest) is)
returns_answered m its reply rest (called {session = n} {statement = other} {rest = more} free inner) alone is =
    absurd (first_of_both (Call n other ∷ more) (Return m reply ∷ rest) is)
returns_answered m its reply rest (taken {clients = clients} n other has inner) alone is =
    absurd
    (dite (ℕ_discrete n m)
    (λ same. is_of (Answered its) (Called other) (sym alone.0 ∙ sym (ap clients same) ∙ has))
    (λ apart. is_of Idle (Called other) (sym (alone.1 n apart) ∙ has)))
returns_answered m its reply rest
    (returned {state = state} {clients = clients} {session = n} {reply = given} {rest = more} has inner) alone is =
    let same = first_of_both (Return n given ∷ more) (Return m reply ∷ rest) is in
    let own : Answered its ≡ Answered given = sym alone.0 ∙ sym (ap clients same.0) ∙ has in (
      sym same.1 ∙ sym (is_of (Answered its) (Answered given) own),
      changed clients n Idle,
      all_idle (changed clients n Idle) n
          (alone_changed clients n Idle (λ k apart. alone.1 k (λ e. apart (e ∙ sym same.0)))),
      subst (λ list. Serves state (changed clients n Idle) list) same.2 inner,
    )
returns_answered m its reply rest (failed {session = n} {rest = more} has inner) alone is =
    absurd (first_of_both (Fail n ∷ more) (Return m reply ∷ rest) is)

-- the return of a session that alone has called: its statement takes effect before it, once
returns_called : {state : State} {clients : ℕ → Client} {seen : List Sight} (m : ℕ) (statement : Statement)
    (reply : Reply)
    (rest : List Sight) → Serves state clients seen → Alone clients m (Called statement)
    → seen ≡ Return m reply ∷ rest
    → (reply ≡ reply_to state m statement)
    × (next : ℕ → Client) × AllIdle next × Serves (after state m statement) next rest
returns_called m statement reply rest over alone is = absurd (first_of_both [] (Return m reply ∷ rest) is)
returns_called m statement reply rest (called {session = n} {statement = other} {rest = more} free inner) alone is =
    absurd (first_of_both (Call n other ∷ more) (Return m reply ∷ rest) is)
returns_called m statement reply rest (taken {state = state} {clients = clients} {rest = more} n other has inner)
    alone is =
    let who = who_called clients m n statement other alone has in
    let moved : Serves (after state m statement) (changed clients m (Answered (reply_to state m statement))) more =
    subst (λ s. Serves (after state m s) (changed clients m (Answered (reply_to state m s))) more) (sym who.1)
    (subst (λ k. Serves (after state k other) (changed clients k (Answered (reply_to state k other))) more) who.0
    inner) in
    returns_answered m (reply_to state m statement) reply rest moved
    (alone_changed clients m (Answered (reply_to state m statement)) alone.1) is
returns_called m statement reply rest
    (returned {clients = clients} {session = n} {reply = given} {rest = more} has inner) alone is =
    let same = first_of_both (Return n given ∷ more) (Return m reply ∷ rest) is in
    absurd (is_of (Called statement) (Answered given) (sym alone.0 ∙ sym (ap clients same.0) ∙ has))
returns_called m statement reply rest (failed {session = n} {rest = more} has inner) alone is =
    absurd (first_of_both (Fail n ∷ more) (Return m reply ∷ rest) is)

-- no fault comes while a session alone has its reply
fails_never : {state : State} {clients : ℕ → Client} {seen : List Sight} (m : ℕ) (its : Reply)
    (rest : List Sight) → Serves state clients seen → Alone clients m (Answered its)
    → seen ≡ Fail m ∷ rest
    → ⊥
fails_never m its rest over alone is = first_of_both [] (Fail m ∷ rest) is
fails_never m its rest (called {session = n} {statement = other} {rest = more} free inner) alone is =
    first_of_both (Call n other ∷ more) (Fail m ∷ rest) is
fails_never m its rest (taken {clients = clients} n other has inner) alone is =
    dite (ℕ_discrete n m)
    (λ same. is_of (Answered its) (Called other) (sym alone.0 ∙ sym (ap clients same) ∙ has))
    (λ apart. is_of Idle (Called other) (sym (alone.1 n apart) ∙ has))
fails_never m its rest (returned {session = n} {reply = given} {rest = more} has inner) alone is =
    first_of_both (Return n given ∷ more) (Fail m ∷ rest) is
fails_never m its rest (failed {clients = clients} {session = n} {statement = other} {rest = more} has inner) alone is =
    let same = first_of_both (Fail n ∷ more) (Fail m ∷ rest) is in
    is_of (Answered its) (Called other) (sym alone.0 ∙ sym (ap clients same.0) ∙ has)

-- the fault of a session that alone has called: its statement takes no effect
fails_called : {state : State} {clients : ℕ → Client} {seen : List Sight} (m : ℕ) (statement : Statement)
    (rest : List Sight) → Serves state clients seen → Alone clients m (Called statement)
    → seen ≡ Fail m ∷ rest
    → (next : ℕ → Client) × AllIdle next × Serves state next rest
fails_called m statement rest over alone is = absurd (first_of_both [] (Fail m ∷ rest) is)
fails_called m statement rest (called {session = n} {statement = other} {rest = more} free inner) alone is =
    absurd (first_of_both (Call n other ∷ more) (Fail m ∷ rest) is)
fails_called m statement rest (taken {state = state} {clients = clients} {rest = more} n other has inner) alone is =
    let who = who_called clients m n statement other alone has in
    absurd
    (fails_never n (reply_to state n other) rest inner
    (alone_changed clients n (Answered (reply_to state n other)) (λ k apart. alone.1 k (λ e. apart (e ∙ sym who.0))))
    (is ∙ ap (λ k. Fail k ∷ rest) (sym who.0)))
fails_called m statement rest (returned {session = n} {reply = given} {rest = more} has inner) alone is =
    absurd (first_of_both (Return n given ∷ more) (Fail m ∷ rest) is)
fails_called m statement rest (failed {state = state} {clients = clients} {session = n} {rest = more} has inner)
    alone is =
    let same = first_of_both (Fail n ∷ more) (Fail m ∷ rest) is in (
      changed clients n Idle,
      all_idle (changed clients n Idle) n
          (alone_changed clients n Idle (λ k apart. alone.1 k (λ e. apart (e ∙ sym same.0)))),
      subst (λ list. Serves state (changed clients n Idle) list) same.1 inner,
    )

-- if no session has a call, what is served is linearizable
served_idle : (state : State) (clients : ℕ → Client) (seen : List Sight) → AllIdle clients
    → Serves state clients seen → IsLinearized state seen
served_idle state clients seen idle serves = subst (λ c. Serves state c seen) (fun_ext idle) serves

-- a call beside which there is no other
pub lone_return : (base : State) (m : ℕ) (statement : Statement) (reply : Reply) (rest : List Sight)
    → IsLinearized base (Call m statement ∷ Return m reply ∷ rest)
    → (reply ≡ reply_to base m statement) × IsLinearized (after base m statement) rest
lone_return base m statement reply rest is =
    let first = calls_first m statement (Return m reply ∷ rest) is (λ n. refl) refl in
    let then = returns_called m statement reply rest first.2 first.1 refl in
    (then.0, served_idle (after base m statement) then.1 rest then.2 then.3)

-- one that ends in a fault
pub lone_fault : (base : State) (m : ℕ) (statement : Statement) (rest : List Sight)
    → IsLinearized base (Call m statement ∷ Fail m ∷ rest)
    → IsLinearized base rest
lone_fault base m statement rest is =
    let first = calls_first m statement (Fail m ∷ rest) is (λ n. refl) refl in
    let then = fails_called m statement rest first.2 first.1 refl in
    served_idle base then.0 rest then.1 then.2
