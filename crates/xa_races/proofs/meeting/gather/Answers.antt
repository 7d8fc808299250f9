use Rattle.std.proofs.Common.{◌≡◌, [], ◌∷◌, ◌++◌, List, length, map, vec_len, ap, sym, subst, ◌∙◌, Some, arith}
use Rattle.std.{proofs.lemmas.List.Elements.{All-pop, All-push, AllZip-push, length_all_zip}, specs.List.All}
use Rattle.xa_words.specs.Entry.{Entry}
use Rattle.chain_log.specs.RingPass.{log_of}
use Rattle.xa_endless.specs.declared.session.EndlessSession.{EndlessSession}
use Rattle.xa_store.{specs.Gathered.{IsTakenIn, last_known}, proofs.Gathering.{zip_itself, last_known_of}}
use Rattle.xa_races.{specs.Long.{known_in, Keeps, HoldsAll}, proofs.Gathering.{stays_itself, others_keep, last_keeps}}
use Rattle.xa_races.proofs.Gathering.{others_taken, last_taken, others_hold, last_holds}
use borrow.Author.Tests.{eqb-true}
use Rattle.xa_races.proofs.meeting.gather.Goals as goal

pub meet_each-requires : goal.meet_each-requires
meet_each-requires c =
    let identity = c.requires.identity in
    let both =
    All-pop (λ (session : EndlessSession). log_of session.member.pass
    ≡ identity) c.args.sessions.now.items c.take_last-last.new.self.items
    (Some c.take_last-last.result) c.take_last-last.ensures.items c.requires.belong in
    λ k d below. both.0 k d below ∙ sym both.1

pub push_reserved-requires : goal.push_reserved-requires
push_reserved-requires c =
    let first = length_all_zip _ c.take_last-last.new.self.items c.meet_each.new.others.items
    c.meet_each.ensures.others in
    let second = length_all_zip _ c.meet_each.new.others.items c.meet_each-2.new.others.items
    c.meet_each-2.ensures.others in
    let third = length_all_zip _ c.meet_each-2.new.others.items c.tell_each.new.others.items
    c.tell_each.ensures.others in
    omega (
      arith,
      first,
      second,
      third,
      c.meet_each.ensures.room,
      c.meet_each-2.ensures.room,
      c.tell_each.ensures.room,
      c.take_last-last.ensures.len,
      c.take_last-last.ensures.capacity,
    )

pub meet_each-requires-2 : goal.meet_each-requires-2
meet_each-requires-2 c = c.meet_each.ensures.belong

pub tell_each-requires : goal.tell_each-requires
tell_each-requires c = c.meet_each-2.ensures.belong

pub returns-clause-keeps : goal.returns-clause-keeps
returns-clause-keeps c =
    rw (c.take_last-last.ensures.items, c.push_reserved.ensures.items)
    (AllZip-push Keeps c.take_last-last.new.self.items c.tell_each.new.others.items c.take_last-last.result
    c.tell_each.new.last
    (others_keep c.take_last-last.new.self.items c.meet_each.new.others.items c.meet_each-2.new.others.items
    c.tell_each.new.others.items
    c.take_last-last.result c.meet_each.new.last c.meet_each-2.new.last c.tell_each.new.last c.meet_each.ensures.others
    c.meet_each.ensures.seen
    c.meet_each.ensures.last c.meet_each-2.ensures.others c.meet_each-2.ensures.seen
    (c.meet_each-2.ensures.whole c.meet_each.ensures.seen).1
    c.meet_each-2.ensures.last c.tell_each.ensures.others c.tell_each.ensures.told c.tell_each.ensures.last)
    (record {
      store = c.tell_each.ensures.store ∙ c.meet_each-2.ensures.store ∙ c.meet_each.ensures.store;
      adds_nothing = last_keeps c.take_last-last.new.self.items c.meet_each.new.others.items
          c.meet_each-2.new.others.items c.tell_each.new.others.items
          c.take_last-last.result c.meet_each.new.last c.meet_each-2.new.last c.tell_each.new.last
          c.meet_each.ensures.others c.meet_each.ensures.seen
          c.meet_each.ensures.last c.meet_each-2.ensures.others c.meet_each-2.ensures.seen
          (c.meet_each-2.ensures.whole c.meet_each.ensures.seen).1
          c.meet_each-2.ensures.last c.tell_each.ensures.others c.tell_each.ensures.told c.tell_each.ensures.last;
    }))

pub returns-clause-taken : goal.returns-clause-taken
returns-clause-taken c =
    let is : (last_known (map known_in (c.tell_each.new.others.items ++ c.tell_each.new.last ∷ []))).seen
    ≡ (known_in c.tell_each.new.last).seen =
    ap (λ known. known.seen) (last_known_of known_in c.tell_each.new.others.items c.tell_each.new.last) in
    rw (c.take_last-last.ensures.items, c.push_reserved.ensures.items)
    (subst (λ (list : List Entry). All (λ session. IsTakenIn list (known_in session))
    (c.take_last-last.new.self.items ++ c.take_last-last.result ∷ [])) (sym is)
    (All-push (λ session. IsTakenIn (known_in c.tell_each.new.last).seen
    (known_in session)) c.take_last-last.new.self.items c.take_last-last.result
    (others_taken c.take_last-last.new.self.items c.meet_each.new.others.items c.meet_each-2.new.others.items
    c.tell_each.new.others.items
    c.take_last-last.result c.meet_each.new.last c.meet_each-2.new.last c.tell_each.new.last c.meet_each.ensures.others
    c.meet_each.ensures.seen
    c.meet_each.ensures.last c.meet_each-2.ensures.others c.meet_each-2.ensures.seen
    (c.meet_each-2.ensures.whole c.meet_each.ensures.seen).1
    c.meet_each-2.ensures.last c.tell_each.ensures.others c.tell_each.ensures.told c.tell_each.ensures.last)
    (last_taken c.take_last-last.new.self.items c.meet_each.new.others.items c.meet_each-2.new.others.items
    c.tell_each.new.others.items
    c.take_last-last.result c.meet_each.new.last c.meet_each-2.new.last c.tell_each.new.last c.meet_each.ensures.others
    c.meet_each.ensures.seen
    c.meet_each.ensures.last c.meet_each-2.ensures.others c.meet_each-2.ensures.seen
    (c.meet_each-2.ensures.whole c.meet_each.ensures.seen).1
    c.meet_each-2.ensures.last c.tell_each.ensures.others c.tell_each.ensures.told c.tell_each.ensures.last)))

pub returns-clause-holds : goal.returns-clause-holds
returns-clause-holds c =
    let is : (last_known (map known_in (c.tell_each.new.others.items ++ c.tell_each.new.last ∷ []))).seen
    ≡ (known_in c.tell_each.new.last).seen =
    ap (λ known. known.seen) (last_known_of known_in c.tell_each.new.others.items c.tell_each.new.last) in
    rw c.push_reserved.ensures.items
    (subst (λ (list : List Entry). All (λ session. HoldsAll list (known_in session))
    (c.tell_each.new.others.items ++ c.tell_each.new.last ∷ [])) (sym is)
    (All-push (λ session. HoldsAll (known_in c.tell_each.new.last).seen
    (known_in session)) c.tell_each.new.others.items c.tell_each.new.last
    (others_hold c.take_last-last.new.self.items c.meet_each.new.others.items c.meet_each-2.new.others.items
    c.tell_each.new.others.items
    c.take_last-last.result c.meet_each.new.last c.meet_each-2.new.last c.tell_each.new.last c.meet_each.ensures.others
    c.meet_each.ensures.seen
    c.meet_each.ensures.last c.meet_each-2.ensures.others c.meet_each-2.ensures.seen
    (c.meet_each-2.ensures.whole c.meet_each.ensures.seen).1
    c.meet_each-2.ensures.last c.tell_each.ensures.others c.tell_each.ensures.told c.tell_each.ensures.last)
    (last_holds c.take_last-last.new.self.items c.meet_each.new.others.items c.meet_each-2.new.others.items
    c.tell_each.new.others.items
    c.take_last-last.result c.meet_each.new.last c.meet_each-2.new.last c.tell_each.new.last c.meet_each.ensures.others
    c.meet_each.ensures.seen
    c.meet_each.ensures.last c.meet_each-2.ensures.others c.meet_each-2.ensures.seen
    (c.meet_each-2.ensures.whole c.meet_each.ensures.seen).1
    c.meet_each-2.ensures.last c.tell_each.ensures.others c.tell_each.ensures.told c.tell_each.ensures.last)))

pub returns-then-is_empty-clause-keeps : goal.returns-then-is_empty-clause-keeps
returns-then-is_empty-clause-keeps c = zip_itself Keeps stays_itself c.args.sessions.now.items

pub returns-then-is_empty-clause-taken : goal.returns-then-is_empty-clause-taken
returns-then-is_empty-clause-taken c k d below =
    let empty : vec_len c.args.sessions.now ≡ 0 = eqb-true (vec_len c.args.sessions.now) 0
    (sym c.is_empty.ensures ∙ c.if-is_empty.true) in
    let none : length c.args.sessions.now.items ≡ 0 = omega (arith, empty, c.args.sessions.now.ok.0) in
    absurd (omega (arith, below, none))

pub returns-then-is_empty-clause-holds : goal.returns-then-is_empty-clause-holds
returns-then-is_empty-clause-holds c k d below =
    let empty : vec_len c.args.sessions.now ≡ 0 = eqb-true (vec_len c.args.sessions.now) 0
    (sym c.is_empty.ensures ∙ c.if-is_empty.true) in
    let none : length c.args.sessions.now.items ≡ 0 = omega (arith, empty, c.args.sessions.now.ok.0) in
    absurd (omega (arith, below, none))
