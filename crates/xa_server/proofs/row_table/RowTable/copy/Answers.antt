use Rattle.std.{proofs.Common.{ap, ◌∙◌, refl}, specs.Option.unwrap_or}
use Rattle.xa_xid.specs.Xid.{bytes_cmp}
use Rattle.xa_server.proofs.{Layers.{same_rows, change_found, changes_sorted}, Underlying.found_run}
use Rattle.std.specs.FinMap as map
use Rattle.xa_server.proofs.row_table.RowTable.copy.Goals as goal

pub with-requires : goal.with-requires
with-requires c =
    changes_sorted c.self.inside.recent _ c.in_ok-changes.ensures.ordered c.in_ok-changes.ensures.listed

pub returns : goal.returns
returns c =
    same_rows c.self.inside.recent c.in_ok-held_records.field-0 c.self.inside.runs c.in_ok-with.field-0
    c.in_ok-held_records.ensures.held
    (λ q. c.in_ok-with.ensures q ∙ ap (λ write. unwrap_or write (map.get c.self.inside.runs q))
    (found_run c.in_ok-changes.changes.items (map.from_sorted {R = bytes_cmp} c.in_ok-changes.changes.items) q
    (changes_sorted c.self.inside.recent _ c.in_ok-changes.ensures.ordered c.in_ok-changes.ensures.listed) refl
    ∙ change_found c.self.inside.recent (map.from_sorted {R = bytes_cmp} c.in_ok-changes.changes.items) q
    c.in_ok-changes.ensures.ordered (ap (map.from_sorted {R = bytes_cmp}) c.in_ok-changes.ensures.listed)))
    ∙ c.self.view_is
