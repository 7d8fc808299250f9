use Rattle.std.proofs.Common.{◌≡◌, ◌-◌, List, length, drop, ap, sym, subst, ◌∙◌, Vec, Global}
use Rattle.std.specs.List.{All, AllZip}
use Rattle.xa_endless.specs.declared.session.EndlessSession.{EndlessSession}
use Rattle.xa_store.{specs.Gathered.IsTakenIn, proofs.Spreading.zip_unmapped}
use Rattle.xa_races.specs.{Long.{known_in, Keeps, seen_by_last}, Assembled.IsWithin, declared.added.Added.Added}
use Rattle.xa_races.proofs.Ends.{all_mapped, all_of_mapped, length_drop, lists_within}
use Rattle.xa_races.proofs.long_racing.settle.Goals as goal

pub returns : goal.returns
returns c =
    let from = c.args.from in
    let raced = c.args.raced.items in
    let parts = c.in_ok-parts.ensures in
    let sessions = c.gather.new.sessions.items in
    let whole = seen_by_last sessions in
    let count : c.count_seen-count.result ≡ length whole =
    c.count_seen-count.ensures ∙ ap (λ (l : List EndlessSession). length (seen_by_last l)) c.as_slice.ensures.value in
    record {
      taken =
          all_of_mapped (λ (session : EndlessSession). IsTakenIn whole (known_in session)) (λ one. one.session) raced
          (subst (λ (l : List EndlessSession). All (λ session. IsTakenIn whole (known_in session)) l) parts.sessions
          c.gather.ensures.taken);
      keeps =
          zip_unmapped Keeps (λ one. one.session) raced sessions
          (subst (λ (l : List EndlessSession). AllZip Keeps l sessions) parts.sessions c.gather.ensures.keeps);
      holds = c.gather.ensures.holds;
      answers = parts.answers;
      history = λ limit listed.
          c.in_ok-history.ensures (drop from whole) limit (length_drop from whole ∙ ap (λ n. n - from) (sym count))
          (subst (λ (l : List (Vec Added Global)). All (λ added. All
          (IsWithin (drop from whole) limit from) added.items) l) (sym parts.added)
          (all_mapped (λ (added : Vec Added Global). All (IsWithin (drop from whole) limit from) added.items)
          (λ one. one.said.added) raced
          (lists_within whole limit from raced listed)));
    }
