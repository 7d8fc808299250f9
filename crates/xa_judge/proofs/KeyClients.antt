-- What a move of one part of a record does in the whole, and the other way round.
--     Together, forth, back        two results are missing, or both are there and belong together
--     Deed, placed, done_in        a state and a client;  a configuration with a new client;  with both new
--     client_after, deed_of        what an event makes of its session's client;  what an act makes of the state and
--                                  the client
--     observed_is, effect_is       that is all that they do
--     IsFreeClient, IsOtherClient  a client may be one of the chosen part;  of the other one
--     IsCallOf, IsRested           a turn suits what was called for;  a session is idle in the chosen part
--     AreClients, AreParts         the clients of the whole, by those of its parts;  the configurations
--     ChosenTogether, RestTogether  the whole and one part belong together, beside the other one
--     chosen_acts, rest_acts       an act in one part is one in the whole, and the other way round
--     chosen_seen, rest_seen       so is an event of one part
--     absent_rests, idle_rests     a session that isn't there, or is idle, has no act
--     same_chosen, same_rest       where an event may stand in one part, the whole has the client of that part
--     other_turn, IsIdleIf         the turn of an event of the other part;  the client is idle if the turn is Nobody
use Rattle.std.proofs.Common.{◌≡◌, ◌≢◌, ◌⊎◌, ℕ, Bool, true, false, cond, Option, Some, None, List, set, refl, ap, sym}
use Rattle.std.{proofs.{Common.{◌∙◌, subst, inl, inr, arith, rules}, lemmas.Option.same_Some}, specs.Prelude.slice_get}
use Rattle.std.specs.Option.{option_map, option_map_or, unwrap_or}
use Rattle.xa_xid.specs.declared.statement.Statement.TheVariants.{Disconnect as DisconnectGiven}
use Rattle.xa_server.specs.{State.State, declared.reply.Reply.TheVariants.Ok as Accepted, Locks.LockLaw, Step.after}
use Rattle.xa_server.proofs.Keeping.{law_after}
use Rattle.xa_judge.specs.declared.{request.Request.{Request, TheVariants.Statement as Given}, answer.Answer.Answer}
use Rattle.xa_judge.specs.declared.event.{Seen.Seen, Event.{Event, TheVariants.{Call, Return, Lost, Unknown}}}
use Rattle.xa_judge.specs.declared.{client_state.ClientState.ClientState, moves.Act.Act}
use Rattle.xa_judge.specs.declared.client_state.ClientState.TheVariants.{Idle, Called, Answered, Gone, Left}
use Rattle.xa_judge.specs.declared.{moves.Act.TheVariants.{Statement, Disconnect}, turn.Turn.Turn}
use Rattle.xa_judge.specs.declared.turn.Turn.TheVariants.{Nobody, Chosen, Other, Within, Rest, Ending}
use Rattle.xa_judge.specs.Explained.{Config, with_client, effect_of, carried_out, disconnected, observed, called}
use Rattle.xa_judge.specs.Explained.{returned, lost, answered_unknown, shows_answer, answer_to, next_state}
use Rattle.xa_judge.specs.Keys.{IsFreeRequest, IsOtherRequest, IsOnRows, IsOffRows, session_of, turn_after, is_chosen}
use Rattle.xa_judge.specs.Keys.{FitsTurn, has_none, free_in, is_start, is_ending, turn_in, turns_past, turn_called}
use Rattle.xa_judge.{specs.Keys.{turn_returned, turn_unknown}, proofs.Places.{same_number, get_written, get_apart}}
use Rattle.xa_judge.proofs.Clean.{OwnsNone, others_none, ended_none}
use Rattle.xa_judge.proofs.KeyStates.{AreJoined, free_join, other_join, joined_with}

-- two results are missing, or both are there and belong together
abbrev pub Together : {A B : Type 0} → (A → B → Type 0) → Option A → Option B → Type 0
Together P None None = Unit {0}
Together P (Some one) (Some other) = P one other
Together P one other = ⊥

-- if two results are missing or belong together (`Together`), and the one is there, so is the other, with which it
-- belongs together
pub forth : {A B : Type 0} (P : A → B → Type 0) (one : Option A) (other : Option B) (x : A) → Together P one other
    → one ≡ Some x
    → (y : B) × (other ≡ Some y) × P x y
forth P one other x both is = grind (arith)

-- if two results are missing or belong together (`Together`), and the other is there, so is the one, with which it
-- belongs together
pub back : {A B : Type 0} (P : A → B → Type 0) (one : Option A) (other : Option B) (y : B) → Together P one other
    → other ≡ Some y
    → (x : A) × (one ≡ Some x) × P x y
back P one other y both is = grind (arith)

-- ---- what events and acts do

-- what an event makes of its session's client; None if the event can't be seen there
unfoldable pub client_after : Event → Option ClientState → Option ClientState
client_after (Call session request) (Some Idle) = Some (Called request)
client_after (Call session request) (Some (Gone None)) = Some (Gone (Some request))
client_after (Call session request) (Some Left) = Some Left
client_after (Return session seen) (Some (Answered answer)) = cond (shows_answer seen answer) (Some Idle) None
client_after (Lost session) (Some Idle) = Some (Gone None)
client_after (Lost session) (Some (Called request)) = Some (Gone (Some request))
client_after (Lost session) (Some (Answered answer)) = Some (Gone None)
client_after (Unknown session) (Some (Called request)) = Some Idle
client_after (Unknown session) (Some (Answered answer)) = Some Idle
client_after event client = None

-- the configuration in which the session has this client instead
abbrev pub placed : Config → ℕ → ClientState → Config
placed config session client = with_client config session client

-- an event only changes its session's client
pub observed_is : (config : Config) (event : Event)
    → observed config event
    ≡ option_map (placed config (session_of event)) (client_after event (slice_get config.clients (session_of event)))
unfolding observed called returned lost answered_unknown client_after
observed_is config event = grind (arith)

-- what an act makes: the state, and the client of its session
pub record Deed : Type 0 where
  pub state : State
  pub client : ClientState

-- what an act makes of the state and of its session's client; None if it can't take effect
unfoldable pub deed_of : ℕ → Act → State → Option ClientState → Option Deed
deed_of session Statement state (Some (Called request)) =
    Some (record { state = next_state state session request; client = Answered (answer_to state session request) })
deed_of session Statement state (Some (Gone (Some request))) =
    Some (record { state = next_state state session request; client = Gone None })
deed_of session Disconnect state (Some (Gone request)) =
    Some (record { state = after state session DisconnectGiven; client = Left })
deed_of session act state client = None

-- the configuration with the state and the session's client that the deed made
abbrev pub done_in : Config → ℕ → Deed → Config
done_in config session deed = record { state = deed.state; clients = set config.clients session deed.client }

-- an act changes the state and its session's client as `deed_of` says, and nothing else
pub effect_is : (config : Config) (session : ℕ) (act : Act)
    → effect_of config session act
    ≡ option_map (done_in config session) (deed_of session act config.state (slice_get config.clients session))
unfolding effect_of carried_out disconnected deed_of
effect_is config session act = grind (arith)

-- ---- the whole, by its parts

-- the client has an open call, of the chosen part: it has called for a statement on a chosen row, or has its answer
abbrev pub IsFreeClient : (List ℕ → Bool) → ClientState → Type 0
IsFreeClient named (Called request) = IsOnRows named request
IsFreeClient named (Answered answer) = Unit {0}
IsFreeClient named client = ⊥

-- a session with this turn may have called for the request: it is no XA START if the session has no branch, and one
-- that ends or detaches a branch (`is_ending`) if the turn is Ending
abbrev pub IsCallOf : Turn → Request → Type 0
IsCallOf turn request = (has_none turn ≡ true → is_start request ≡ false) × (turn ≡ Ending → is_ending request ≡ true)

-- the client may be one of the other part: what it has called for names no chosen row. It also suits the turn
-- (`IsCallOf`); if the client is gone with that call, its session may have a branch by the turn instead
abbrev pub IsOtherClient : (List ℕ → Bool) → Turn → ClientState → Type 0
IsOtherClient named turn (Called request) = IsOffRows named request × IsCallOf turn request
IsOtherClient named turn (Gone (Some request)) = (has_none turn ≡ false) × IsOffRows named request
IsOtherClient named turn client = Unit {0}

-- the session is idle in the chosen part, and has one client in the whole and in the other part, which may be one of
-- the other part (`IsOtherClient`)
abbrev pub IsRested : (List ℕ → Bool) → Turn → Option ClientState → Option ClientState → Option ClientState → Type 0
IsRested named turn whole chosen rest =
    (client : ClientState) × IsOtherClient named turn client × (whole ≡ Some client) × (chosen ≡ Some Idle)
    × (rest ≡ Some client)

-- the session's clients in the whole, the chosen part and the other part belong together, by its turn. None: no such
-- session is there. Nobody: it is idle in all three. Chosen: the whole and the chosen part have the same client, with
-- an open call of that part, and the other part an idle one. Else `IsRested`
abbrev pub AreClients : (List ℕ → Bool) → Option Turn → Option ClientState → Option ClientState → Option ClientState
    → Type 0
AreClients named None whole chosen rest = (whole ≡ None) × (chosen ≡ None) × (rest ≡ None)
AreClients named (Some Nobody) whole chosen rest = (whole ≡ Some Idle) × (chosen ≡ Some Idle) × (rest ≡ Some Idle)
AreClients named (Some Chosen) whole chosen rest =
    (client : ClientState) × IsFreeClient named client × (whole ≡ Some client) × (chosen ≡ Some client)
    × (rest ≡ Some Idle)
AreClients named (Some turn) whole chosen rest = IsRested named turn whole chosen rest

-- by its turn, the session's open call belongs to the other part, or the session may have a branch
abbrev pub is_rest : Turn → Bool
is_rest Nobody = false
is_rest Chosen = false
is_rest Other = true
is_rest Within = true
is_rest Rest = true
is_rest Ending = true

-- by a turn of the other part (`is_rest`), the session is idle in the chosen part, and its client in the other part is
-- that in the whole
rested : (named : List ℕ → Bool) (turn : Turn) (whole chosen rest : Option ClientState) → is_rest turn ≡ true
    → AreClients named (Some turn) whole chosen rest → IsRested named turn whole chosen rest
rested named turn whole chosen rest is are = grind (arith)

-- if a session's turn is of the other part (`is_rest`), clients of which `IsRested` holds belong together by it
-- (`AreClients`)
are_rested : (named : List ℕ → Bool) (turn : Turn) (whole chosen rest : Option ClientState) → is_rest turn ≡ true
    → IsRested named turn whole chosen rest → AreClients named (Some turn) whole chosen rest
are_rested named turn whole chosen rest is are = grind (arith)

-- a session whose turn is Ending, and whose call was accepted, owns no branch
abbrev pub AreEnded : List Turn → Config → Type 0
AreEnded turns whole = (session : ℕ) → slice_get turns session ≡ Some Ending
    → slice_get whole.clients session ≡ Some (Answered (Answer.Reply Accepted)) → OwnsNone whole.state session

-- the configurations of the whole, the chosen part and the other part belong together: their states are joined
-- (`AreJoined`), each session's clients belong together by its turn (`AreClients`), and in the whole the lock law
-- holds and a session whose call to end its branch was accepted owns none (`AreEnded`)
pub record AreParts (named : List ℕ → Bool) (turns : List Turn) (whole chosen rest : Config) : Type 0 where
  pub states : AreJoined named (free_in turns) whole.state chosen.state rest.state
  pub clients : (session : ℕ) → AreClients named (slice_get turns session) (slice_get whole.clients session)
      (slice_get chosen.clients session) (slice_get rest.clients session)
  pub law : LockLaw whole.state
  pub ended : AreEnded turns whole

-- what holds of a turn and its three clients (`AreClients`) holds of equal ones
told : (named : List ℕ → Bool) (t u : Option Turn) (a b c x y z : Option ClientState)
    → t ≡ u → a ≡ x → b ≡ y → c ≡ z → AreClients named t a b c → AreClients named u x y z
told named t u a b c x y z e f g h are = grind (arith)

-- if one session's turn and clients are replaced by such that belong together (`AreClients`), and all others are as
-- they were, those of each session belong together
clients_set : (named : List ℕ → Bool) (session : ℕ) (turns new_turns : List Turn)
    (whole chosen rest new_whole new_chosen new_rest : List ClientState)
    → ((other : ℕ) → AreClients named (slice_get turns other) (slice_get whole other) (slice_get chosen other)
    (slice_get rest other))
    → ((other : ℕ) → session ≢ other → slice_get turns other ≡ slice_get new_turns other)
    → ((other : ℕ) → session ≢ other → slice_get whole other ≡ slice_get new_whole other)
    → ((other : ℕ) → session ≢ other → slice_get chosen other ≡ slice_get new_chosen other)
    → ((other : ℕ) → session ≢ other → slice_get rest other ≡ slice_get new_rest other)
    → AreClients named (slice_get new_turns session) (slice_get new_whole session) (slice_get new_chosen session)
    (slice_get new_rest session)
    → (other : ℕ) → AreClients named (slice_get new_turns other) (slice_get new_whole other)
    (slice_get new_chosen other) (slice_get new_rest other)
clients_set named session turns new_turns whole chosen rest new_whole new_chosen new_rest were t w c r here other =
    grind (arith)

-- a write leaves what stands at another place
aside : {A : Type 0} (xs : List A) (session : ℕ) (x : A) (other : ℕ) → session ≢ other
    → slice_get xs other ≡ slice_get (set xs session x) other
aside xs session x other apart = sym (get_apart xs session other x apart)

-- the whole and the chosen part belong together (`AreParts`), beside the other part, which stays
abbrev pub ChosenTogether : (List ℕ → Bool) → List Turn → Config → Config → Config → Type 0
ChosenTogether named turns rest whole chosen = AreParts named turns whole chosen rest

-- the whole and the other part belong together (`AreParts`), beside the chosen part, which stays
abbrev pub RestTogether : (List ℕ → Bool) → List Turn → Config → Config → Config → Type 0
RestTogether named turns chosen whole rest = AreParts named turns whole chosen rest

-- ---- requests of a session with a turn

-- a session counts as one without a branch (`free_in`) as its turn says (`has_none`)
free_turn : (turns : List Turn) (session : ℕ) (turn : Turn) → slice_get turns session ≡ Some turn
    → free_in turns session ≡ has_none turn
free_turn turns session turn at = ap (λ o. option_map_or has_none o false) at

-- a statement on a chosen row may stand in the chosen part if its session has no branch
on_rows : (named : List ℕ → Bool) (free : ℕ → Bool) (session : ℕ) (request : Request) → free session ≡ true
    → IsOnRows named request → IsFreeRequest named free session request
on_rows named free session request also is = grind (arith)

-- a request that names no chosen row may stand in the other part if it starts no branch, or its session may have one
off_rows : (named : List ℕ → Bool) (free : ℕ → Bool) (session : ℕ) (request : Request)
    → (is_start request ≡ true → free session ≡ false) → IsOffRows named request
    → IsOtherRequest named free session request
off_rows named free session request starts is = grind (arith)

-- a session whose request is XA START may have a branch by its turn, if with a turn by which it has none (`has_none`)
-- the request would be no XA START
starts_within : (turns : List Turn) (session : ℕ) (turn : Turn) (request : Request)
    → slice_get turns session ≡ Some turn → (has_none turn ≡ true → is_start request ≡ false)
    → is_start request ≡ true → free_in turns session ≡ false
starts_within turns session turn request at plain starts = grind (arith)

-- a request keeps the lock law
law_next : (state : State) (session : ℕ) (request : Request) → LockLaw state
    → LockLaw (next_state state session request)
law_next state session request law = grind (arith, law_after)

-- after a session's request `AreEnded` still holds, if the session has no branch then where its turn is Ending and
-- the request was accepted
ended_next : (turns : List Turn) (whole : Config) (session : ℕ) (request : Request) (client next : ClientState)
    → AreEnded turns whole → slice_get whole.clients session ≡ Some client
    → (slice_get turns session ≡ Some Ending → next ≡ Answered (Answer.Reply Accepted)
    → OwnsNone (next_state whole.state session request) session)
    → AreEnded turns (record {
      state = next_state whole.state session request;
      clients = set whole.clients session next;
    })
ended_next turns whole session request client next ended at own other ending answered =
    grind (arith, aside, get_written, others_none)

-- ---- acts

-- no turn is both Chosen and Ending
chosen_ending : Some Chosen ≡ Some Ending → ⊥
chosen_ending e = cc

-- where the open call of a session is in the chosen part, its act leads from the whole and from that part to parts, or
-- from neither; here by what it makes of the state and of the client
chosen_deed : (named : List ℕ → Bool) (turns : List Turn) (whole chosen rest : Config) (session : ℕ)
    (act : Act) (client : ClientState) → AreParts named turns whole chosen rest
    → slice_get turns session ≡ Some Chosen
    → IsFreeClient named client
    → slice_get whole.clients session ≡ Some client → slice_get chosen.clients session ≡ Some client
    → slice_get rest.clients session ≡ Some Idle
    → Together (ChosenTogether named turns rest)
    (option_map (done_in whole session) (deed_of session act whole.state (Some client)))
    (option_map (done_in chosen session) (deed_of session act chosen.state (Some client)))
unfolding deed_of
chosen_deed named turns whole chosen rest session Statement (Called request) parts turn is at there idle =
    let both = free_join named (free_in turns) whole.state chosen.state rest.state session request parts.states
    (on_rows named (free_in turns) session request (free_turn turns session Chosen turn) is) in
    let next = Answered (answer_to whole.state session request) in
    let same = Answered (answer_to chosen.state session request) in
    record {
      states = both.1;
      clients = clients_set named session turns turns whole.clients chosen.clients rest.clients
          (set whole.clients session next) (set chosen.clients session same) rest.clients parts.clients
          (λ other apart. refl) (aside whole.clients session next) (aside chosen.clients session same)
          (λ other apart. refl)
          (subst (λ t. AreClients named t (slice_get (set whole.clients session next) session)
          (slice_get (set chosen.clients session same) session) (slice_get rest.clients session)) (sym turn) (
            next,
            tt,
            get_written whole.clients session (Called request) next at,
            get_written chosen.clients session (Called request) same there ∙ ap (λ a. Some (Answered a)) (sym both.0),
            idle,
          ));
      law = law_next whole.state session request parts.law;
      ended = ended_next turns whole session request (Called request) next parts.ended at
          (λ ending accepted. absurd (chosen_ending (sym turn ∙ ending)));
    }
chosen_deed named turns whole chosen rest session Disconnect (Called request) parts turn is at there idle = tt
chosen_deed named turns whole chosen rest session Statement (Answered answer) parts turn is at there idle = tt
chosen_deed named turns whole chosen rest session Disconnect (Answered answer) parts turn is at there idle = tt
chosen_deed named turns whole chosen rest session act Idle parts turn is at there idle = absurd is
chosen_deed named turns whole chosen rest session act (Gone request) parts turn is at there idle = absurd is
chosen_deed named turns whole chosen rest session act Left parts turn is at there idle = absurd is

-- results that are equal to two that belong together, or are both missing, do so too
pub together_told : {A B : Type 0} (P : A → B → Type 0) (one new : Option A) (other new_other : Option B)
    → new ≡ one → new_other ≡ other → Together P one other → Together P new new_other
together_told P one new other new_other e f both = grind (arith)

-- an act of a session whose open call is in the chosen part can take effect in the whole and in that part, or in
-- neither, and leads to parts again
pub chosen_acts : (named : List ℕ → Bool) (turns : List Turn) (whole chosen rest : Config)
    (session : ℕ) (act : Act) → AreParts named turns whole chosen rest
    → slice_get turns session ≡ Some Chosen
    → Together (ChosenTogether named turns rest) (effect_of whole session act) (effect_of chosen session act)
chosen_acts named turns whole chosen rest session act parts turn =
    let here = subst (λ t. AreClients named t (slice_get whole.clients session)
    (slice_get chosen.clients session) (slice_get rest.clients session)) turn (parts.clients session) in
    together_told (ChosenTogether named turns rest) _ _ _ _
    (effect_is whole session act
    ∙ ap (λ o. option_map (done_in whole session) (deed_of session act whole.state o)) here.2)
    (effect_is chosen session act
    ∙ ap (λ o. option_map (done_in chosen session) (deed_of session act chosen.state o)) here.3)
    (chosen_deed named turns whole chosen rest session act here.0 parts turn here.1 here.2 here.3 here.4)

-- a request of a session that is in the other part by its turn (`is_rest`), carried out in the whole and in the
-- other part, leaves parts again (`AreParts`), if the states are still joined, the session's new client is one of the
-- other part, and `AreEnded` holds of the session
rest_done : (named : List ℕ → Bool) (turns : List Turn) (whole chosen rest : Config) (session : ℕ) (turn : Turn)
    (request : Request) (client next same : ClientState) → AreParts named turns whole chosen rest
    → slice_get turns session ≡ Some turn → is_rest turn ≡ true
    → slice_get whole.clients session ≡ Some client → slice_get chosen.clients session ≡ Some Idle
    → slice_get rest.clients session ≡ Some client
    → next ≡ same
    → IsOtherClient named turn next
    → AreJoined named (free_in turns) (next_state whole.state session request) chosen.state
    (next_state rest.state session request)
    → (slice_get turns session ≡ Some Ending → next ≡ Answered (Answer.Reply Accepted)
    → OwnsNone (next_state whole.state session request) session)
    → AreParts named turns
    (record { state = next_state whole.state session request; clients = set whole.clients session next }) chosen
    (record { state = next_state rest.state session request; clients = set rest.clients session same })
rest_done named turns whole chosen rest session turn request client next same parts there_turn rests at idle there e is
    joined own = record {
      states = joined;
      clients = clients_set named session turns turns whole.clients chosen.clients rest.clients
          (set whole.clients session next) chosen.clients (set rest.clients session same) parts.clients
          (λ other apart. refl) (aside whole.clients session next) (λ other apart. refl)
          (aside rest.clients session same)
          (subst (λ t. AreClients named t (slice_get (set whole.clients session next) session)
          (slice_get chosen.clients session) (slice_get (set rest.clients session same) session)) (sym there_turn)
          (are_rested named turn _ _ _ rests (
            next,
            is,
            get_written whole.clients session client next at,
            idle,
            get_written rest.clients session client same there ∙ ap Some (sym e),
          )));
      law = law_next whole.state session request parts.law;
      ended = ended_next turns whole session request client next parts.ended at own;
    }

-- if two answered clients are equal, so are their answers
answer_is : (one other : Answer) → Answered one ≡ Answered other → one ≡ other
answer_is one other e = cc

-- a client that is gone isn't answered
gone_answered : (answer : Answer) → Gone None ≡ Answered answer → ⊥
gone_answered answer e = cc

-- a client whose DISCONNECT took effect isn't answered
left_answered : (answer : Answer) → Left ≡ Answered answer → ⊥
left_answered answer e = cc

-- where the open call of a session is in the other part, or it may have a branch, its act leads from the whole and from
-- that part to parts, or from neither
rest_deed : (named : List ℕ → Bool) (turns : List Turn) (whole chosen rest : Config) (session : ℕ) (turn : Turn)
    (act : Act) (client : ClientState) → AreParts named turns whole chosen rest
    → slice_get turns session ≡ Some turn → is_rest turn ≡ true
    → IsOtherClient named turn client
    → slice_get whole.clients session ≡ Some client → slice_get chosen.clients session ≡ Some Idle
    → slice_get rest.clients session ≡ Some client
    → Together (RestTogether named turns chosen)
    (option_map (done_in whole session) (deed_of session act whole.state (Some client)))
    (option_map (done_in rest session) (deed_of session act rest.state (Some client)))
unfolding deed_of
rest_deed named turns whole chosen rest session turn Statement (Called request) parts there_turn rests is at idle
    there =
    let both = other_join named (free_in turns) whole.state chosen.state rest.state session request parts.states
    (off_rows named (free_in turns) session request
    (starts_within turns session turn request there_turn is.1.0) is.0) in
    rest_done named turns whole chosen rest session turn request (Called request) _ _ parts there_turn rests at idle
    there
    (ap Answered both.0) tt both.1
    (λ ending accepted. ended_none whole.state session request parts.law
    (is.1.1 (same_Some turn Ending (sym there_turn ∙ ending)))
    (answer_is (answer_to whole.state session request) (Answer.Reply Accepted) accepted))
rest_deed named turns whole chosen rest session turn Disconnect (Called request) parts there_turn rests is at idle
    there =
    tt
rest_deed named turns whole chosen rest session turn Statement (Answered answer) parts there_turn rests is at idle
    there = tt
rest_deed named turns whole chosen rest session turn Disconnect (Answered answer) parts there_turn rests is at idle
    there = tt
rest_deed named turns whole chosen rest session turn Statement Idle parts there_turn rests is at idle there = tt
rest_deed named turns whole chosen rest session turn Disconnect Idle parts there_turn rests is at idle there = tt
rest_deed named turns whole chosen rest session turn Statement (Gone None) parts there_turn rests is at idle there = tt
rest_deed named turns whole chosen rest session turn Statement (Gone (Some request)) parts there_turn rests is at idle
    there =
    let both = other_join named (free_in turns) whole.state chosen.state rest.state session request parts.states
    (off_rows named (free_in turns) session request
    (λ starts. free_turn turns session turn there_turn ∙ is.0) is.1) in
    rest_done named turns whole chosen rest session turn request (Gone (Some request)) (Gone None) (Gone None) parts
    there_turn rests at idle there refl tt both.1
    (λ ending accepted. absurd (gone_answered (Answer.Reply Accepted) accepted))
rest_deed named turns whole chosen rest session turn Disconnect (Gone request) parts there_turn rests is at idle there =
    let both = other_join named (free_in turns) whole.state chosen.state rest.state session (Given DisconnectGiven)
    parts.states tt in
    rest_done named turns whole chosen rest session turn (Given DisconnectGiven) (Gone request) Left Left parts
    there_turn
    rests at idle there refl tt both.1 (λ ending accepted. absurd (left_answered (Answer.Reply Accepted) accepted))
rest_deed named turns whole chosen rest session turn Statement Left parts there_turn rests is at idle there = tt
rest_deed named turns whole chosen rest session turn Disconnect Left parts there_turn rests is at idle there = tt

-- an act of a session whose open call is in the other part, or that may have a branch, can take effect in the whole and
-- in that part, or in neither, and leads to parts again
pub rest_acts : (named : List ℕ → Bool) (turns : List Turn) (whole chosen rest : Config)
    (session : ℕ) (turn : Turn) (act : Act) → AreParts named turns whole chosen rest
    → slice_get turns session ≡ Some turn → is_rest turn ≡ true
    → Together (RestTogether named turns chosen) (effect_of whole session act) (effect_of rest session act)
rest_acts named turns whole chosen rest session turn act parts there_turn rests =
    let here = rested named turn _ _ _ rests (subst (λ t. AreClients named t (slice_get whole.clients session)
    (slice_get chosen.clients session) (slice_get rest.clients session)) there_turn (parts.clients session)) in
    together_told (RestTogether named turns chosen) _ _ _ _
    (effect_is whole session act
    ∙ ap (λ o. option_map (done_in whole session) (deed_of session act whole.state o)) here.2)
    (effect_is rest session act
    ∙ ap (λ o. option_map (done_in rest session) (deed_of session act rest.state o)) here.4)
    (rest_deed named turns whole chosen rest session turn act here.0 parts there_turn rests here.1 here.2 here.3 here.4)

-- a session that isn't there has no act
pub absent_rests : (config new : Config) (session : ℕ) (act : Act) → slice_get config.clients session ≡ None
    → effect_of config session act ≡ Some new → ⊥
unfolding deed_of
absent_rests config new session act at leads = grind (arith, effect_is)

-- a session that is idle has no act
pub idle_rests : (config new : Config) (session : ℕ) (act : Act) → slice_get config.clients session ≡ Some Idle
    → effect_of config session act ≡ Some new → ⊥
unfolding deed_of
idle_rests config new session act at leads = grind (arith, effect_is)

-- ---- events

-- `turn_in` finds the turn of a session that is there
turn_is : (turns : List Turn) (session : ℕ) (turn : Turn) → slice_get turns session ≡ Some turn
    → turn_in turns session ≡ turn
turn_is turns session turn at = ap (λ o. unwrap_or o Nobody) at

-- the turn of an open call of the chosen part is Chosen
chosen_is : (turn : Turn) → is_chosen turn ≡ true → turn ≡ Chosen
chosen_is turn is = grind (arith)

-- an event of the chosen part stands only where the turn of its session is Nobody or Chosen
chosen_turns : (named : List ℕ → Bool) (turn : Turn) (event : Event) → FitsTurn named turn event true
    → (turn ≡ Nobody) ⊎ (turn ≡ Chosen)
chosen_turns named turn event fits = grind (arith)

-- where an event of the chosen part may stand, its session has the same client in the whole and in that part, and is
-- idle in the other one
pub same_chosen : (named : List ℕ → Bool) (turn : Turn) (event : Event)
    (whole chosen rest : Option ClientState) → FitsTurn named turn event true
    → AreClients named (Some turn) whole chosen rest
    → (client : ClientState) × (whole ≡ Some client) × (chosen ≡ Some client) × (rest ≡ Some Idle)
same_chosen named turn event whole chosen rest fits are = grind (arith)

-- an event of the other part stands only where its session's open call isn't one of the chosen part
pub other_turn : (named : List ℕ → Bool) (turn : Turn) (event : Event) → FitsTurn named turn event false
    → is_chosen turn ≡ false
other_turn named turn event fits = grind (arith)

-- if the turn is Nobody, which is that of a session with no open call and no branch, the client is idle
abbrev pub IsIdleIf : Turn → ClientState → Type 0
IsIdleIf turn client = turn ≡ Nobody → client ≡ Idle

-- a session whose open call isn't one of the chosen part has the same client in the whole and in the other part, and
-- is idle in the chosen one
pub same_rest : (named : List ℕ → Bool) (turn : Turn) (whole chosen rest : Option ClientState)
    → is_chosen turn ≡ false
    → AreClients named (Some turn) whole chosen rest
    → (client : ClientState) × (IsOtherClient named turn client × IsIdleIf turn client) × (whole ≡ Some client)
    × (chosen ≡ Some Idle) × (rest ≡ Some client)
same_rest named turn whole chosen rest not are = grind (arith)

-- after a return its session is idle
return_idle : (session : ℕ) (seen : Seen) (client next : ClientState)
    → client_after (Return session seen) (Some client) ≡ Some next
    → next ≡ Idle
unfolding client_after
return_idle session seen client next is = grind (arith)

-- a session whose return was seen had an answer that the return shows
return_shows : (session : ℕ) (seen : Seen) (client next : ClientState)
    → client_after (Return session seen) (Some client) ≡ Some next
    → (answer : Answer) × (client ≡ Answered answer) × (shows_answer seen answer ≡ true)
unfolding client_after
return_shows session seen client next is = grind (arith)

-- after an answer that isn't known its session is idle
unknown_idle : (session : ℕ) (client next : ClientState) → client_after (Unknown session) (Some client) ≡ Some next
    → next ≡ Idle
unfolding client_after
unknown_idle session client next is = grind (arith)

-- after a call that names no chosen row and suits the new turn, its session's client is one of the other part, if it
-- was idle or the session may have a branch by that turn
call_other : (named : List ℕ → Bool) (new : Turn) (session : ℕ) (request : Request) (client next : ClientState)
    → IsOffRows named request → IsCallOf new request → ((client ≡ Idle) ⊎ (has_none new ≡ false))
    → client_after (Call session request) (Some client) ≡ Some next
    → IsOtherClient named new next
unfolding client_after
call_other named new session request client next off call idle is = grind (arith)

-- after it is lost, a client of the other part is still one, with the turn Within
lost_other : (named : List ℕ → Bool) (turn : Turn) (session : ℕ) (client next : ClientState)
    → IsOtherClient named turn client
    → client_after (Lost session) (Some client) ≡ Some next
    → IsOtherClient named Within next
unfolding client_after
lost_other named turn session client next other is = grind (arith)

-- once an idle session's call is seen, its client has called for that request
idle_calls : (session : ℕ) (request : Request) (next : ClientState)
    → client_after (Call session request) (Some Idle) ≡ Some next
    → Called request ≡ next
unfolding client_after
idle_calls session request next is = same_Some (Called request) next is

-- after an event of the chosen part its session's clients belong together by the new turn (`AreClients`)
chosen_next : (named : List ℕ → Bool) (turn : Turn) (event : Event) (client next : ClientState)
    (rest : Option ClientState) → FitsTurn named turn event true
    → AreClients named (Some turn) (Some client) (Some client) rest
    → client_after event (Some client) ≡ Some next
    → AreClients named (Some (turn_after turn event true)) (Some next) (Some next) rest
chosen_next named turn event client next rest fits are is =
    grind (arith, idle_calls, return_idle, same_chosen, turn_returned, turn_unknown, unknown_idle)

-- after a call in the other part its session's clients belong together by the new turn (`AreClients`)
called_next : (named : List ℕ → Bool) (turn : Turn) (session : ℕ) (request : Request) (client next : ClientState)
    (chosen : Option ClientState) → is_chosen turn ≡ false → IsOffRows named request → IsIdleIf turn client
    → chosen ≡ Some Idle
    → client_after (Call session request) (Some client) ≡ Some next
    → AreClients named (Some (turn_called turn request)) (Some next) chosen (Some next)
called_next named turn session request client next chosen not off idle rests is = grind (arith, call_other)

-- a session that is idle in all three has clients that belong together by the turns Nobody and Within, as after a
-- return or an unknown answer
idle_next : (named : List ℕ → Bool) (turn : Turn) (next : ClientState) (chosen : Option ClientState)
    → (turn ≡ Nobody) ⊎ (turn ≡ Within) → next ≡ Idle → chosen ≡ Some Idle
    → AreClients named (Some turn) (Some next) chosen (Some next)
idle_next named turn next chosen is e idle = grind (arith)

-- after a return its session's turn is Nobody or Within
returned_turns : (turn : Turn) (seen : Seen) → (turn_returned turn seen ≡ Nobody) ⊎ (turn_returned turn seen ≡ Within)
returned_turns turn seen = grind (arith)

-- after an answer that isn't known its session's turn is Nobody or Within
unknown_turns : (turn : Turn) → (turn_unknown turn ≡ Nobody) ⊎ (turn_unknown turn ≡ Within)
unknown_turns turn = grind (arith)

-- after an event of the other part its session's clients belong together by the new turn (`AreClients`)
rest_next : (named : List ℕ → Bool) (turn : Turn) (event : Event) (client next : ClientState)
    (chosen : Option ClientState) → FitsTurn named turn event false
    → IsOtherClient named turn client → IsIdleIf turn client
    → chosen ≡ Some Idle
    → client_after event (Some client) ≡ Some next
    → AreClients named (Some (turn_after turn event false)) (Some next) chosen (Some next)
rest_next named turn (Call session request) client next chosen fits other idle_if idle is =
    called_next named turn session request client next chosen fits.0 fits.1 idle_if idle is
rest_next named turn (Return session seen) client next chosen fits other idle_if idle is =
    idle_next named (turn_returned turn seen) next chosen (returned_turns turn seen)
    (return_idle session seen client next is) idle
rest_next named turn (Lost session) client next chosen fits other idle_if idle is =
    (next, lost_other named turn session client next other is, refl, idle, refl)
rest_next named turn (Unknown session) client next chosen fits other idle_if idle is =
    idle_next named (turn_unknown turn) next chosen (unknown_turns turn) (unknown_idle session client next is) idle

-- ---- who has no branch after an event

-- where an event of the chosen part may stand, its session has no branch, by its turn
chosen_none : (named : List ℕ → Bool) (turn : Turn) (event : Event) → FitsTurn named turn event true
    → has_none turn ≡ true
chosen_none named turn event fits = grind (arith)

-- the answer that a return of OK shows is that the statement was accepted
ok_accepted : (answer : Answer) → shows_answer Seen.Ok answer ≡ true → answer ≡ Answer.Reply Accepted
ok_accepted answer is = grind (arith)

-- a session that has no branch by its turn after a call in the other part had none before it
within_called : (turn : Turn) (request : Request) → is_chosen turn ≡ false
    → has_none (turn_called turn request) ≡ true → has_none turn ≡ true
within_called turn request not is = grind (arith)

-- a session that has no branch by its turn after a return had none before it, or its call to end its branch was
-- accepted
returned_none : (turn : Turn) (seen : Seen) (answer : Answer) → shows_answer seen answer ≡ true
    → has_none (turn_returned turn seen) ≡ true
    → (has_none turn ≡ true) ⊎ ((turn ≡ Ending) × (answer ≡ Answer.Reply Accepted))
returned_none turn seen answer shows is = grind (arith)

-- a session that has no branch by its turn after an answer that isn't known had none before it
unknown_none : (turn : Turn) → has_none (turn_unknown turn) ≡ true → has_none turn ≡ true
unknown_none turn is = grind (arith)

-- a session that has no branch by its turn after an event of the other part had none before it, or its call to end
-- its branch was accepted
rest_none : (named : List ℕ → Bool) (turn : Turn) (event : Event) (client next : ClientState)
    → FitsTurn named turn event false
    → client_after event (Some client) ≡ Some next
    → has_none (turn_after turn event false) ≡ true
    → (has_none turn ≡ true) ⊎ ((turn ≡ Ending) × (client ≡ Answered (Answer.Reply Accepted)))
rest_none named turn event client next fits is also =
    grind (arith, return_shows, returned_none, unknown_none, within_called)

-- after its call a session isn't answered yet
called_unanswered : (session : ℕ) (request : Request) (client : ClientState) (answer : Answer)
    → client_after (Call session request) (Some client) ≡ Some (Answered answer) → ⊥
unfolding client_after
called_unanswered session request client answer is = grind (arith)

-- a session whose turn is Ending after an event isn't answered then: its call to end its branch has only begun
open_by_call : (turn : Turn) (event : Event) (side : Bool) (client next : ClientState) (answer : Answer)
    → client_after event (Some client) ≡ Some next → turn_after turn event side ≡ Ending → next ≡ Answered answer → ⊥
open_by_call turn event side client next answer is ending answered = grind (arith, called_unanswered, unknown_turns)

-- an event of a session with this turn, where the whole and its parts belong together (`AreParts`)
module _ (named : List ℕ → Bool) (turns : List Turn) (whole chosen rest : Config) (event : Event)
    (turn : Turn) (parts : AreParts named turns whole chosen rest)
    (at : slice_get turns (session_of event) ≡ Some turn) where
  -- the clients of the event's session belong together, by its turn (`AreClients`)
  here : AreClients named (Some turn) (slice_get whole.clients (session_of event))
      (slice_get chosen.clients (session_of event)) (slice_get rest.clients (session_of event))
  here = grind (arith)

  -- after the event, its session's turn is the one that `turn_after` gives
  written : (side : Bool) → slice_get (turns_past turns side event) (session_of event)
      ≡ Some (turn_after turn event side)
  written side = grind (arith, get_written)

  -- who has no branch by the turns after the event had none before it, or owns none, if that is so of the event's
  -- session
  none_past : (side : Bool)
      → (has_none (turn_after turn event side) ≡ true
      → (has_none turn ≡ true) ⊎ OwnsNone whole.state (session_of event))
      → (other : ℕ) → free_in (turns_past turns side event) other ≡ true
      → (free_in turns other ≡ true) ⊎ OwnsNone whole.state other
  none_past side own other is = search (rules, arith, aside, free_turn, option_map_or, same_number, written)

  -- after the event `AreEnded` still holds: no event answers a call
  ended_past : (side : Bool) (client next : ClientState)
      → client_after event (Some client) ≡ Some next
      → slice_get whole.clients (session_of event) ≡ Some client
      → AreEnded (turns_past turns side event)
      (record { state = whole.state; clients = set whole.clients (session_of event) next })
  ended_past side client next is was other ending answered = elim (same_number (session_of event) other) [
    | inl e ↦ absurd (open_by_call turn event side client next (Answer.Reply Accepted) is
        (same_Some (turn_after turn event side) Ending
        (sym (written side) ∙ ap (slice_get (turns_past turns side event)) e ∙ ending))
        (same_Some next (Answered (Answer.Reply Accepted))
        (sym (get_written whole.clients (session_of event) client next was)
        ∙ ap (slice_get (set whole.clients (session_of event) next)) e ∙ answered)))
    | inr apart ↦ parts.ended other (aside turns (session_of event) _ other apart ∙ ending)
        (aside whole.clients (session_of event) next other apart ∙ answered)
  ]

  -- an event of the chosen part can be seen in the whole and in that part, or in neither, and leads to parts again
  pub chosen_seen : FitsTurn named turn event true
      → Together (ChosenTogether named (turns_past turns true event) rest) (observed whole event)
      (observed chosen event)
  chosen_seen fits =
      let session = session_of event in
      let same = same_chosen named turn event _ _ _ fits here in
      together_told (ChosenTogether named (turns_past turns true event) rest) _ _ _ _
      (observed_is whole event ∙ ap (λ o. option_map (placed whole session) (client_after event o)) same.1)
      (observed_is chosen event ∙ ap (λ o. option_map (placed chosen session) (client_after event o)) same.2)
      (by same (client_after event (Some same.0)) refl)
    where
      by : (same : (client : ClientState) × (slice_get whole.clients (session_of event) ≡ Some client)
          × (slice_get chosen.clients (session_of event) ≡ Some client)
          × (slice_get rest.clients (session_of event) ≡ Some Idle))
          (o : Option ClientState) → client_after event (Some same.0) ≡ o
          → Together (ChosenTogether named (turns_past turns true event) rest)
          (option_map (placed whole (session_of event)) o) (option_map (placed chosen (session_of event)) o)
      by same None is = tt
      by same (Some next) is =
          let session = session_of event in
          let other = slice_get rest.clients session in
          let old = told named (Some turn) (Some turn) (slice_get whole.clients session)
          (slice_get chosen.clients session) other (Some same.0) (Some same.0) other refl same.1 same.2 refl here in
          let new = chosen_next named turn event same.0 next (slice_get rest.clients session) fits old is in
          record {
            states = joined_with named (free_in turns) (free_in (turns_past turns true event)) whole.state chosen.state
                rest.state (none_past true (λ e. inl (chosen_none named turn event fits))) parts.states;
            clients = clients_set named session turns (turns_past turns true event) whole.clients chosen.clients
                rest.clients (set whole.clients session next) (set chosen.clients session next) rest.clients
                parts.clients (aside turns session _) (aside whole.clients session next)
                (aside chosen.clients session next) (λ other apart. refl)
                (told named (Some (turn_after turn event true))
                (slice_get (turns_past turns true event) session) (Some next) (Some next) other
                (slice_get (set whole.clients session next) session)
                (slice_get (set chosen.clients session next) session) other
                (sym (written true))
                (sym (get_written whole.clients session same.0 next same.1))
                (sym (get_written chosen.clients session same.0 next same.2)) refl new);
            law = parts.law;
            ended = ended_past true same.0 next is same.1;
          }

  -- an event of the other part can be seen in the whole and in that part, or in neither, and leads to parts again
  pub rest_seen : FitsTurn named turn event false
      → Together (RestTogether named (turns_past turns false event) chosen) (observed whole event)
      (observed rest event)
  rest_seen fits =
      let session = session_of event in
      let same = same_rest named turn _ _ _ (other_turn named turn event fits) here in
      together_told (RestTogether named (turns_past turns false event) chosen) _ _ _ _
      (observed_is whole event ∙ ap (λ o. option_map (placed whole session) (client_after event o)) same.2)
      (observed_is rest event ∙ ap (λ o. option_map (placed rest session) (client_after event o)) same.4)
      (by same (client_after event (Some same.0)) refl)
    where
      by : (same : (client : ClientState) × (IsOtherClient named turn client × IsIdleIf turn client)
          × (slice_get whole.clients (session_of event) ≡ Some client)
          × (slice_get chosen.clients (session_of event) ≡ Some Idle)
          × (slice_get rest.clients (session_of event) ≡ Some client))
          (o : Option ClientState) → client_after event (Some same.0) ≡ o
          → Together (RestTogether named (turns_past turns false event) chosen)
          (option_map (placed whole (session_of event)) o) (option_map (placed rest (session_of event)) o)
      by same None is = tt
      by same (Some next) is =
          let session = session_of event in
          let other = slice_get chosen.clients session in
          let new = rest_next named turn event same.0 next (slice_get chosen.clients session) fits same.1.0 same.1.1
          same.3 is in
          record {
            states = joined_with named (free_in turns) (free_in (turns_past turns false event)) whole.state chosen.state
                rest.state (none_past false (λ none. elim (rest_none named turn event same.0 next fits is none) [
                  | inl before ↦ inl before
                  | inr ended ↦ inr (parts.ended session (at ∙ ap Some ended.0) (same.2 ∙ ap Some ended.1))
                ])) parts.states;
            clients = clients_set named session turns (turns_past turns false event) whole.clients chosen.clients
                rest.clients (set whole.clients session next) chosen.clients (set rest.clients session next)
                parts.clients (aside turns session _) (aside whole.clients session next)
                (λ other apart. refl) (aside rest.clients session next)
                (told named (Some (turn_after turn event false))
                (slice_get (turns_past turns false event) session) (Some next) other (Some next)
                (slice_get (set whole.clients session next) session) other
                (slice_get (set rest.clients session next) session)
                (sym (written false))
                (sym (get_written whole.clients session same.0 next same.2)) refl
                (sym (get_written rest.clients session same.0 next same.4)) new);
            law = parts.law;
            ended = ended_past false same.0 next is same.2;
          }
