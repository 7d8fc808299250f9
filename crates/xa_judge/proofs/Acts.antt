-- What an act does: a request is carried out, and its session has no open request any more.
--     ActsAs, acts_as     the request, and what becomes of the client
use Rattle.std.proofs.Common.{◌≡◌, ◌⊎◌, ℕ, Option, Some, None, List, set, refl, ap, sym, ◌∙◌, subst, inl, inr, true}
use Rattle.std.proofs.lemmas.{Option.{none-some, same_Some}, List.length-set, Bool.false≢true}
use Rattle.std.specs.Prelude.{slice_get}
use Rattle.xa_xid.specs.declared.statement.Statement.{Statement, TheVariants.Disconnect}
use Rattle.xa_server.specs.State.{State}
use Rattle.xa_judge.specs.declared.{request.Request.Request, answer.Answer.Answer, client_state.ClientState.ClientState}
use Rattle.xa_judge.specs.{declared.moves.Act.Act, Apart.{open_statement, is_gone, HasOpen}}
use Rattle.xa_judge.specs.Explained.{Config, effect_of, carried_out, disconnected, answer_to, next_state}

-- ---- acts

-- an act carries out a request, which the session has open (`opens`). After it the session has no request that can
-- still take effect (`closed`, `gone`, `shut`), but the DISCONNECT of a client that was gone before (`leaves`). It does
-- likewise in each configuration in which the session's client is the same, whatever the state is (`again`)
pub record ActsAs (old : Config) (session : ℕ) (act : Act) (new : Config) : Type 0 where
  pub request : Request
  pub client : Answer → ClientState
  pub opens : (statement : Statement) → request ≡ Request.Statement statement → HasOpen old session statement
  pub was : (one : Request) → slice_get old.clients session ≡ Some (ClientState.Called one) → request ≡ one
  pub there : ClientState
  pub found : slice_get old.clients session ≡ Some there
  pub is : new ≡ record {
    state = next_state old.state session request;
    clients = set old.clients session (client (answer_to old.state session request));
  }
  pub again : (other : Config) → slice_get other.clients session ≡ slice_get old.clients session
      → effect_of other session act ≡ Some (record {
        state = next_state other.state session request;
        clients = set other.clients session (client (answer_to other.state session request));
      })
  pub closed : (answer : Answer) (one : Request) → client answer ≡ ClientState.Called one → ⊥
  pub gone : (answer : Answer) (one : Request) → client answer ≡ ClientState.Gone (Some one) → ⊥
  pub shut : (answer : Answer) → open_statement (Some (client answer)) ≡ None
  pub leaves : (answer : Answer) → is_gone (Some (client answer)) ≡ true
      → is_gone (slice_get old.clients session) ≡ true

-- clients that wait for the same call have called for the same request
same_call : (one two : Request) → Some (ClientState.Called one) ≡ Some (ClientState.Called two) → one ≡ two
same_call one two e = cc

-- a request that is DISCONNECT is no other statement
same_statement : (statement : Statement) → Request.Statement Disconnect ≡ Request.Statement statement
    → Disconnect ≡ statement
same_statement statement e = cc

-- each act that takes effect carries out a request in this way (`ActsAs`)
pub acts_as : (old new : Config) (session : ℕ) (act : Act) → effect_of old session act ≡ Some new
    → ActsAs old session act new
unfolding effect_of carried_out disconnected
acts_as old new session Act.Statement leads = by (slice_get old.clients session) refl leads
  where
    by : (c : Option ClientState) → slice_get old.clients session ≡ c → carried_out c old session ≡ Some new
        → ActsAs old session Act.Statement new
    by None at e = absurd (none-some new e)
    by (Some ClientState.Idle) at e = absurd (none-some new e)
    by (Some (ClientState.Called request)) at e = record {
      request = request;
      client = λ answer. ClientState.Answered answer;
      opens = λ statement e. inl (ap open_statement at ∙ ap (λ r. open_statement (Some (ClientState.Called r))) e);
      was = λ one there. same_call request one (sym at ∙ there);
      there = ClientState.Called request;
      found = at;
      is = sym (same_Some _ new e);
      again = λ other same. ap (λ o. carried_out o other session) (same ∙ at);
      closed = λ answer one f. absurd (answered answer one f);
      gone = λ answer one f. absurd (left answer one f);
      shut = λ answer. refl;
      leaves = λ answer f. absurd (false≢true f);
    }
      where
        answered : (answer : Answer) (one : Request) → ClientState.Answered answer ≡ ClientState.Called one → ⊥
        answered answer one f = cc

        left : (answer : Answer) (one : Request) → ClientState.Answered answer ≡ ClientState.Gone (Some one) → ⊥
        left answer one f = cc
    by (Some (ClientState.Answered answer)) at e = absurd (none-some new e)
    by (Some (ClientState.Gone None)) at e = absurd (none-some new e)
    by (Some (ClientState.Gone (Some request))) at e = record {
      request = request;
      client = λ answer. ClientState.Gone None;
      opens = λ statement e. inl (ap open_statement at ∙ ap (λ r. open_statement (Some (ClientState.Gone (Some r)))) e);
      was = λ one there. absurd (not_called one (sym at ∙ there));
      there = ClientState.Gone (Some request);
      found = at;
      is = sym (same_Some _ new e);
      again = λ other same. ap (λ o. carried_out o other session) (same ∙ at);
      closed = λ answer one f. absurd (gone_called one f);
      gone = λ answer one f. absurd (gone_gone one f);
      shut = λ answer. refl;
      leaves = λ answer f. ap is_gone at;
    }
      where
        not_called : (one : Request) → Some (ClientState.Gone (Some request)) ≡ Some (ClientState.Called one) → ⊥
        not_called one f = cc

        gone_called : (one : Request) → ClientState.Gone None ≡ ClientState.Called one → ⊥
        gone_called one f = cc

        gone_gone : (one : Request) → ClientState.Gone None ≡ ClientState.Gone (Some one) → ⊥
        gone_gone one f = cc
    by (Some ClientState.Left) at e = absurd (none-some new e)
acts_as old new session Act.Disconnect leads = by (slice_get old.clients session) refl leads
  where
    by : (c : Option ClientState) → slice_get old.clients session ≡ c → disconnected c old session ≡ Some new
        → ActsAs old session Act.Disconnect new
    by None at e = absurd (none-some new e)
    by (Some ClientState.Idle) at e = absurd (none-some new e)
    by (Some (ClientState.Called request)) at e = absurd (none-some new e)
    by (Some (ClientState.Answered answer)) at e = absurd (none-some new e)
    by (Some (ClientState.Gone request)) at e = record {
      request = Request.Statement Disconnect;
      client = λ answer. ClientState.Left;
      opens = λ statement e. inr (ap is_gone at, sym (same_statement statement e));
      was = λ one there. absurd (not_called one (sym at ∙ there));
      there = ClientState.Gone request;
      found = at;
      is = sym (same_Some _ new e);
      again = λ other same. ap (λ o. disconnected o other session) (same ∙ at);
      closed = λ answer one f. absurd (left_called one f);
      gone = λ answer one f. absurd (left_gone one f);
      shut = λ answer. refl;
      leaves = λ answer f. absurd (false≢true f);
    }
      where
        not_called : (one : Request) → Some (ClientState.Gone request) ≡ Some (ClientState.Called one) → ⊥
        not_called one f = cc

        left_called : (one : Request) → ClientState.Left ≡ ClientState.Called one → ⊥
        left_called one f = cc

        left_gone : (one : Request) → ClientState.Left ≡ ClientState.Gone (Some one) → ⊥
        left_gone one f = cc
    by (Some ClientState.Left) at e = absurd (none-some new e)
