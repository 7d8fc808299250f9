-- What serving a statement makes of what the sessions of a store know.
use Rattle.std.proofs.Common.{◌≡◌, inl, inr, ◌≤◌, ◌+◌, ℕ, zero, suc, Bool, true, false, List, [], ◌∷◌, ◌++◌, length}
use Rattle.std.proofs.Common.{take, refl, ap, sym, ◌∙◌, subst, arith, length-append}
use Rattle.std.{proofs.lemmas.List.{take_all, take-append-le}, specs.Prelude.{Result, Ok, Err, IfOk, OnErr}}
use Rattle.xa_words.specs.Entry.{Entry}
use Rattle.xa_xid.specs.declared.statement.Statement.{Statement}
use Rattle.xa_server.specs.{State.State, Replies.reply_to, Step.{enters, after}}
use Rattle.decision_log.specs.{History.{Begins, entries_of}, Calls.{Looked, IsAdded}, declared.known.Known.Known}
use Rattle.decision_log.proofs.Histories.{begins_append, get_last, own_last, own_other}
use Rattle.xa_session.specs.{Answer.{entry_of, IsAnswered}, Replay.{state_after, state_at}}
use Rattle.xa_session.specs.declared.{answer.Answer.Answer, fault.Fault.Fault}
use Rattle.xa_session.proofs.Answering.{IsReply, answered_outside, answered_entered}
use Rattle.xa_session.proofs.Replaying.{state_after-last, state_at-whole, state_at-begins, state_after-nil, place_below}
use Rattle.xa_coordinator.specs.{Watched.{known_by, HasSeenOwn, AllEntered, Serves}, declared.watch.Watch.Watch}

-- what a session of an unbounded store knows, of its number, what it has seen, its own entries and its looks: it has
-- tried once for each entry of its own, and has looked so often since
abbrev known_from : ℕ → List Entry → List Entry → ℕ → Known
known_from session seen mine looks =
    record { number = session; seen = seen; mine = mine; looks = looks; tries = length mine; since = looks }

-- what a session knows is made of four parts: equal parts make it equal
known_same : (session : ℕ) (seen seen' mine mine' : List Entry) (looks looks' : ℕ) → seen ≡ seen' → mine ≡ mine'
    → looks ≡ looks'
    → known_from session seen mine looks ≡ known_from session seen' mine' looks'
known_same session seen seen' mine mine' looks looks' same_seen same_mine same_looks =
    ap (λ s. known_from session s mine looks) same_seen ∙ ap (λ m. known_from session seen' m looks) same_mine
    ∙ ap (λ n. known_from session seen' mine' n) same_looks

-- a list begins with each front of it
begins_take : (count : ℕ) (xs : List Entry) → Begins (take count xs) xs
begins_take zero xs = refl
begins_take (suc count) [] = refl
begins_take (suc count) (x ∷ xs) = ap (λ rest. x ∷ rest) (begins_take count xs)

-- a front as long as the list is the list
whole_taken : (count : ℕ) (xs : List Entry) → count ≡ length xs → take count xs ≡ xs
whole_taken count xs is = take_all count xs (omega (arith, is))

-- the state after an empty history is the base
pub starts : (base : State) → state_after base [] ≡ base
starts base = state_after-nil base

-- all entries of an empty history have entered
pub none_entered : (base : State) → AllEntered base []
none_entered base = record { entered = λ place entry is. absurd (cc); two = λ place entry is. absurd (cc) }

-- if all entries of a history have entered, and one more, of session 1 or 2, enters after them, so have all of the
-- longer history
entered_more : (base : State) (history : List Entry) (last : Entry)
    → enters (state_after base history) last.session last.statement ≡ true
    → (1 ≤ last.session) × (last.session ≤ 2) → AllEntered base history → AllEntered base (history ++ last ∷ [])
entered_more base history last entering number all = record {
  entered = λ place entry is.
      elim (get_last history last place entry is) [
        | inl before ↦
            ap (λ s. enters s entry.session entry.statement)
            (state_at-begins base history (history ++ last ∷ []) place (begins_append history (last ∷ []))
            (let below = place_below history place entry before in omega (arith, below)))
            ∙ all.entered place entry before
        | inr at ↦
            let there : state_at base (history ++ last ∷ []) place ≡ state_after base history =
            ap (state_at base (history ++ last ∷ [])) at.0
            ∙ state_at-begins base history (history ++ last ∷ []) (length history) (begins_append history (last ∷ []))
            (omega arith)
            ∙ state_at-whole base history in
            subst (λ (e : Entry). enters (state_at base (history ++ last ∷ []) place) e.session e.statement ≡ true) at.1
            (ap (λ s. enters s last.session last.statement) there ∙ entering)
      ];
  two = λ place entry is.
      elim (get_last history last place entry is) [
        | inl before ↦ all.two place entry before
        | inr at ↦ subst (λ (e : Entry). (1 ≤ e.session) × (e.session ≤ 2)) at.1 number
      ];
}

module _ (session : ℕ) (statement : Statement) (answer : Answer) (base old new : State) (history history' : List Entry)
    (watch watch' : Watch)
    (serves : Serves session statement answer old history watch new history' watch') where
  -- the statement as an entry of its session
  abbrev entry : Entry
  entry = entry_of session statement

  -- the history has grown by the statement's entry, and the server has carried it out
  abbrev grown : Type 0
  grown = (history' ≡ history ++ entry ∷ []) × (new ≡ after old session statement)

  -- the history and the server are as before
  abbrev kept : Type 0
  kept = (history' ≡ history) × (new ≡ old)

  -- what follows if the statement enters and its entry was added, and if it doesn't and nothing changed, holds
  either : (P : Type 0) → (enters old session statement ≡ true → grown → P)
      → (enters old session statement ≡ false → kept → P) → P
  either P entered outside = by (enters old session statement) refl
    where
      by : (b : Bool) → enters old session statement ≡ b → P
      by true is = entered is (serves.entered is)
      by false is = outside is (serves.outside is)

  -- if the server was what the history leaves, it is what the history leaves after the call
  pub stands_still : old ≡ state_after base history → new ≡ state_after base history'
  stands_still stands =
      either (new ≡ state_after base history')
      (λ is e. e.1 ∙ ap (λ s. after s session statement) stands ∙ sym (state_after-last base history entry)
      ∙ ap (state_after base) (sym e.0))
      (λ is e. e.1 ∙ stands ∙ ap (state_after base) (sym e.0))

  -- if each entry of the history was logged at its place, and the session is 1 or 2, this holds after the call
  pub entered_still : old ≡ state_after base history → (1 ≤ session) × (session ≤ 2) → AllEntered base history
      → AllEntered base history'
  entered_still stands number all =
      either (AllEntered base history')
      (λ is e. subst (AllEntered base) (sym e.0) (entered_more base history entry
      (ap (λ s. enters s session statement) (sym stands) ∙ is) number all))
      (λ is e. subst (AllEntered base) (sym e.0) all)

  -- the session has seen all entries of its own
  pub sees_own : HasSeenOwn session watch' history'
  sees_own = record {
    within = omega (arith, serves.whole);
    own = ap (entries_of session) (whole_taken watch'.seen history' serves.whole);
  }

  -- if another session had seen all entries of its own, it still has: it has seen what it had, and a new entry isn't
  -- its
  pub other_sees : (other : ℕ) (mark : Watch) → (session ≡ other → ⊥) → HasSeenOwn other mark history
      → HasSeenOwn other mark history'
  other_sees other mark apart sees =
      either (HasSeenOwn other mark history')
      (λ is e. subst (HasSeenOwn other mark) (sym e.0) (record {
        within = omega (arith, sees.within, length-append history (entry ∷ []));
        own =
            ap (entries_of other) (take-append-le mark.seen history (entry ∷ []) sees.within) ∙ sees.own
            ∙ sym (own_other other history entry apart);
      }))
      (λ is e. subst (HasSeenOwn other mark) (sym e.0) sees)

  -- another session that had seen all entries of its own knows what it knew
  pub other_knows : (other : ℕ) (mark : Watch) → (session ≡ other → ⊥) → HasSeenOwn other mark history
      → known_by other mark history' ≡ known_by other mark history
  other_knows other mark apart sees =
      either (known_by other mark history' ≡ known_by other mark history)
      (λ is e. ap (known_by other mark) e.0
      ∙ known_same other _ _ _ _ mark.looks mark.looks (take-append-le mark.seen history (entry ∷ []) sees.within)
      (own_other other history entry apart) refl)
      (λ is e. ap (known_by other mark) e.0)

  -- what the session knew before the call
  abbrev before : Known
  before = known_by session watch history

  -- what the session knows once it has looked: it has seen the whole history
  abbrev mid : Known
  mid = known_from session history (entries_of session history) (watch.looks + 1)

  -- what the session knows once it has looked comes from what it knew before the call by a look
  looked : Looked before mid
  looked = record
      { number = refl; seen = begins_take watch.seen history; mine = refl; looks = refl; tries = refl; since = refl }

  -- a server that is what the history leaves is the state at the history's end
  there : old ≡ state_after base history → old ≡ state_at base history (length history)
  there stands = stands ∙ sym (state_at-whole base history)

  -- if the server was what the history leaves, the answer is the server's at the end of what the session has then seen
  is_reply : (entering : Bool) → old ≡ state_after base history → enters old session statement ≡ entering
      → IsReply base statement answer entering mid
  is_reply entering stands is = record {
    place = serves.place;
    reply_is = serves.reply_is ∙ ap (λ s. reply_to s session statement) (there stands);
    enters_is = sym is ∙ ap (λ s. enters s session statement) (there stands);
  }

  -- if the server was what the history leaves, the session's statement was answered
  pub served : old ≡ state_after base history → IsAnswered base statement answer before
      (known_by session watch' history')
  served stands =
      either (IsAnswered base statement answer before (known_by session watch' history'))
      (λ is e.
      let last : Known = known_from session (history ++ entry ∷ []) (entries_of session history ++ entry ∷ [])
      (watch.looks + 1) in
      let same : known_by session watch' history' ≡ last =
      known_same session _ _ _ _ _ _ (whole_taken watch'.seen history' serves.whole ∙ e.0)
      (ap (entries_of session) e.0 ∙ own_last session history entry refl) serves.looked in
      let added : IsAdded entry mid last = record {
        number = refl;
        seen = refl;
        mine = refl;
        looks = omega arith;
        tries = length-append (entries_of session history) (entry ∷ []);
      } in
      subst (IsAnswered base statement answer before) (sym same)
      (answered_entered base statement answer before mid last looked (is_reply true stands is) added))
      (λ is e.
      let same : known_by session watch' history' ≡ mid =
      known_same session _ _ _ _ _ _ (whole_taken watch'.seen history' serves.whole ∙ e.0)
      (ap (entries_of session) e.0) serves.looked in
      subst (IsAnswered base statement answer before) (sym same)
      (answered_outside base statement answer before mid looked (is_reply false stands is)))

-- however serving ends, these facts hold after it if they held before: the server is what the history leaves, both
-- sessions have seen their own entries, and each entry was logged at its place
pub after_serving : (session other : ℕ) (statement : Statement) (result : Result Answer Fault) (base old new : State)
    (history history' : List Entry)
    (watch watch' mark : Watch)
    → IfOk result (λ answer. Serves session statement answer old history watch new history' watch')
    → OnErr result (new ≡ old) → OnErr result (history' ≡ history) → OnErr result (watch' ≡ watch)
    → (session ≡ other → ⊥) → old ≡ state_after base history
    → HasSeenOwn session watch history → HasSeenOwn other mark history → (1 ≤ session) × (session ≤ 2)
    → AllEntered base history
    → (new ≡ state_after base history') × HasSeenOwn session watch' history' × HasSeenOwn other mark history'
    × AllEntered base history'
after_serving session other statement (Ok answer) base old new history history' watch watch' mark serves same none still
    apart stands own others number all = (
      stands_still session statement answer base old new history history' watch watch' serves stands,
      sees_own session statement answer base old new history history' watch watch' serves,
      other_sees session statement answer base old new history history' watch watch' serves other mark apart others,
      entered_still session statement answer base old new history history' watch watch' serves stands number all,
    )
after_serving session other statement (Err fault) base old new history history' watch watch' mark serves same none still
    apart stands own others number all = (
      same ∙ stands ∙ ap (state_after base) (sym none),
      subst (HasSeenOwn session watch') (sym none) (subst (λ w. HasSeenOwn session w history) (sym still) own),
      subst (HasSeenOwn other mark) (sym none) others,
      subst (AllEntered base) (sym none) all,
    )
