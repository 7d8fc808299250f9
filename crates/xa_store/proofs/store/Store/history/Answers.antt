use Rattle.std.proofs.Common.{◌≡◌, [], ◌∷◌, ◌++◌, length, map, vec_len, refl, ap, sym, subst, ◌∙◌, Some, arith}
use Rattle.std.proofs.lemmas.List.{nil_from_length, Elements.{All-pop, All-push, AllZip-push, length_all_zip}}
use Rattle.std.{proofs.lemmas.Result.IfOk-weaker, specs.List.All}
use Rattle.xa_store.specs.{Passes.{identity_of, log_of, known_of}, Gathered.{IsTakenIn, AddsNothing, last_known}}
use Rattle.xa_store.proofs.Gathering.{zip_itself, zip_weaker, keeps_itself, meets_keeps, last_known_of}
use borrow.Author.Tests.{eqb-true}
use Rattle.xa_store.proofs.store.Store.history.Goals as goal

pub meet_all-requires : goal.meet_all-requires
meet_all-requires c =
    let identity = identity_of c.args.self.now.log in
    let both =
    All-pop (λ session. log_of session.pass ≡ identity) c.args.sessions.now.items c.take_last-last.new.self.items
    (Some c.take_last-last.result)
    c.take_last-last.ensures.items c.requires in
    λ k d below. both.0 k d below ∙ sym both.1

pub push_reserved-requires : goal.push_reserved-requires
push_reserved-requires c =
    let long = length_all_zip _ c.take_last-last.new.self.items c.meet_all.new.others.items c.meet_all.ensures.others in
    omega (arith, long, c.meet_all.ensures.room, c.take_last-last.ensures.len, c.take_last-last.ensures.capacity)

pub returns-clause-keeps : goal.returns-clause-keeps
returns-clause-keeps c =
    let told = c.meet_all.ensures in
    let copied = c.copy_seen-history.ensures in
    rw (c.take_last-last.ensures.items, c.push_reserved.ensures.items)
    (AllZip-push (λ old new. (new.base.now ≡ old.base.now) × (log_of new.pass ≡ log_of old.pass)
    × AddsNothing (known_of old.pass) (known_of new.pass))
    c.take_last-last.new.self.items c.meet_all.new.others.items c.take_last-last.result c.copy_seen-history.new.session
    (zip_weaker _ _ (λ old new is. (is.0, is.1, meets_keeps (known_of old.pass) (known_of new.pass) is.2))
    c.take_last-last.new.self.items c.meet_all.new.others.items
    told.others) (
      copied.base ∙ told.base,
      copied.belongs ∙ told.belongs,
      subst
          (λ known. AddsNothing (known_of c.take_last-last.result.pass) known) (sym copied.same) told.last,
    ))

pub returns-clause-last : goal.returns-clause-last
returns-clause-last c =
    let copied = c.copy_seen-history.ensures in
    IfOk-weaker c.copy_seen-history.result _ _
    (λ list is. is ∙ ap (λ known. known.seen)
    (sym copied.same
    ∙ sym (last_known_of (λ session. known_of session.pass) c.meet_all.new.others.items c.copy_seen-history.new.session)
    ∙ ap (λ items. last_known (map (λ session. known_of session.pass) items)) (sym c.push_reserved.ensures.items)))
    copied.copied

pub returns-clause-whole : goal.returns-clause-whole
returns-clause-whole c =
    let told = c.meet_all.ensures in
    let copied = c.copy_seen-history.ensures in
    IfOk-weaker c.copy_seen-history.result _ _
    (λ list is. rw c.push_reserved.ensures.items
    (subst (λ history. All (λ session. IsTakenIn history (known_of session.pass))
    (c.meet_all.new.others.items ++ c.copy_seen-history.new.session ∷ []))
    (sym is)
    (All-push (λ session. IsTakenIn (known_of c.meet_all.new.last.pass).seen
    (known_of session.pass)) c.meet_all.new.others.items
    c.copy_seen-history.new.session
    told.taken_in
    (subst (λ known. IsTakenIn (known_of c.meet_all.new.last.pass).seen known) (sym copied.same) told.own))))
    copied.copied

pub returns-clause-looked : goal.returns-clause-looked
returns-clause-looked c some =
    let copied = c.copy_seen-history.ensures in
    rw (
      c.take_last-last.ensures.items,
      c.push_reserved.ensures.items,
      last_known_of (λ session. known_of session.pass) c.take_last-last.new.self.items c.take_last-last.result,
      last_known_of (λ session. known_of session.pass) c.meet_all.new.others.items c.copy_seen-history.new.session,
      copied.same,
    )
    c.meet_all.ensures.looked

pub returns-then-is_empty-clause-keeps : goal.returns-then-is_empty-clause-keeps
returns-then-is_empty-clause-keeps c =
    zip_itself _ (λ session. (refl, refl, keeps_itself (known_of session.pass))) c.args.sessions.now.items

pub returns-then-is_empty-clause-last : goal.returns-then-is_empty-clause-last
returns-then-is_empty-clause-last c =
    let empty : vec_len c.args.sessions.now ≡ 0 = eqb-true (vec_len c.args.sessions.now) 0
    (sym c.is_empty.ensures ∙ c.if-is_empty.true) in
    let none : length c.args.sessions.now.items ≡ 0 = omega (arith, empty, c.args.sessions.now.ok.0) in
    c.new.ensures.items ∙ ap (λ items. (last_known (map (λ session. known_of session.pass) items)).seen)
    (sym (nil_from_length c.args.sessions.now.items none))

pub returns-then-is_empty-clause-looked : goal.returns-then-is_empty-clause-looked
returns-then-is_empty-clause-looked c some =
    let empty : vec_len c.args.sessions.now ≡ 0 = eqb-true (vec_len c.args.sessions.now) 0
    (sym c.is_empty.ensures ∙ c.if-is_empty.true) in
    let none : length c.args.sessions.now.items ≡ 0 = omega (arith, empty, c.args.sessions.now.ok.0) in
    absurd (omega (arith, some, none))

pub returns-then-is_empty-clause-whole : goal.returns-then-is_empty-clause-whole
returns-then-is_empty-clause-whole c k d below =
    let empty : vec_len c.args.sessions.now ≡ 0 = eqb-true (vec_len c.args.sessions.now) 0
    (sym c.is_empty.ensures ∙ c.if-is_empty.true) in
    let none : length c.args.sessions.now.items ≡ 0 = omega (arith, empty, c.args.sessions.now.ok.0) in
    absurd (omega (arith, below, none))
