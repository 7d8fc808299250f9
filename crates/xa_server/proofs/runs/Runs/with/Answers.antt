use Rattle.std.{proofs.Common.{ap, ◌∙◌}, specs.{Option.unwrap_or, FinMap.{find, is_sorted}}}
use Rattle.xa_xid.specs.Xid.{bytes_cmp}
use Rattle.xa_server.{specs.Parts.{parted, rows_at}, proofs.Parted.{rewritten, sorted_out-ascend, part_below}}
use Rattle.std.specs.FinMap as map
use Rattle.xa_server.proofs.runs.Runs.with.Goals as goal

pub all_rewritten-requires : goal.all_rewritten-requires
all_rewritten-requires c n =
    ap (λ lists. is_sorted bytes_cmp (rows_at n lists)) c.in_ok-lists.ensures
    ∙ sorted_out-ascend 64 0 c.args.rows.items c.requires n

pub returns : goal.returns
returns c q =
    ap (λ parts. map.get (parted parts.items) q) c.in_ok-new.ensures.ok
    ∙ ap (λ parts. map.get (parted parts) q) c.in_ok-parts.ensures
    ∙ rewritten c.args.rows.items c.parts.result.now _ q c.in_ok-lists.ensures (part_below q)
    ∙ ap (λ m. unwrap_or (find bytes_cmp q c.args.rows.items) (map.get m q)) c.parts.ensures
