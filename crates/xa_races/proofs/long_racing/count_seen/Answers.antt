use Rattle.std.proofs.Common.{◌≡◌, suc, ◌-◌, ◌<◌, List, [], ◌∷◌, length, map, get_or, refl, ap, ◌∙◌, arith}
use Rattle.std.proofs.lemmas.Bool.Decides.{nat_tests}
use Rattle.decision_log.specs.declared.known.Known.{Known}
use Rattle.xa_endless.specs.declared.session.EndlessSession.{EndlessSession}
use Rattle.xa_store.specs.Gathered.{last_known}
use Rattle.xa_races.specs.Long.{known_in}
use Rattle.xa_races.proofs.long_racing.count_seen.Goals as goal

last_at : (sessions : List EndlessSession) (d : EndlessSession) → 0 < length sessions
    → known_in (get_or sessions (length sessions - 1) d) ≡ last_known (map known_in sessions)
last_at [] d some = absurd (omega arith)
last_at (session ∷ []) d some = refl
last_at (session ∷ other ∷ sessions) d some =
    let next : length (session ∷ other ∷ sessions) - 1 ≡ suc (length (other ∷ sessions) - 1) = omega arith in
    ap (λ n. known_in (get_or (session ∷ other ∷ sessions) n d)) next ∙ last_at (other ∷ sessions) d (omega arith)

pub returns : goal.returns
returns c =
    let none = c.if-is_empty.ensures in
    let some : 0 < length c.args.sessions.now = grind (arith, nat_tests, none) in
    c.seen.ensures
    ∙ ap (λ (known : Known). length known.seen)
    (ap known_in c.index-sessions-sessions.is ∙ last_at c.args.sessions.now c.index-sessions-sessions.result some)
