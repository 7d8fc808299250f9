use Rattle.std.proofs.{Common.{◌≡◌, ◌<◌, length, get_or, sym, subst, ap, ◌∙◌}, lemmas.List.Elements.{All-get_or, All-push}}
use Rattle.std.{proofs.lemmas.Iterator.{Adapters.YieldsList-from_vec, Consumers.YieldsList-turn}, specs.List.All}
use Rattle.xa_endless.specs.declared.session.EndlessSession.{EndlessSession}
use Rattle.xa_races.specs.declared.long_run.LongRun.{LongRun}
use Rattle.xa_races.proofs.counted_lines.runs_of.Goals as goal

pub loop-session-preserved : goal.loop-session-preserved
loop-session-preserved c =
    let store = c.args.store.now.value in
    let sessions = c.args.sessions.items in
    let session = c.in-Some.session in
    let yielded = c.loop-session.yielded in
    let from = c.into_iter-session-iterator.ensures.into_iter_gives in
    let turn : (length yielded < length sessions) × (session ≡ get_or sessions (length yielded) session) =
    YieldsList-turn (YieldsList-from_vec {s = c.into_iter-session-iterator.result} sessions from.0
    (from.1 ∙ c.args.sessions.ok.0)) yielded
    c.loop-session.session-iterator c.loop-session.yielded_by c.next.result c.next.new.self session c.in-Some.is
    c.next.ensures.steps in
    let Mine : EndlessSession → Type 0 = λ s. s.store.value ≡ store in
    let mine : session.store.value ≡ store =
    subst Mine (sym turn.1) (All-get_or Mine sessions (length yielded) session turn.0 c.requires) in
    let Runs : LongRun → Type 0 = λ run. run.session.store.value ≡ store in
    subst (All Runs) (sym c.in_ok-push.ensures.items)
    (All-push Runs c.loop-session.runs.items _ c.loop-session.invariant mine)
