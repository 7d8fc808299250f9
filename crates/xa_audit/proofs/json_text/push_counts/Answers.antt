use Rattle.std.proofs.Common.{◌++◌, ap, ◌∙◌, codes, decimal}
use Rattle.xa_server.proofs.Outcomes.{on_ok}
use Rattle.xa_audit.{specs.Written.counts_json, proofs.Texts.four_counts}
use Rattle.xa_audit.proofs.json_text.push_counts.Goals as goal

pub returns : goal.returns
unfolding counts_json
returns c = on_ok c.push_count-4.result c.push_count-4.ensures (λ put.
    four_counts c.args.text.now.items c.push_count.new.text.items c.push_count-2.new.text.items
    c.push_count-3.new.text.items
    c.push_count-4.new.text.items _ _ _ _ (codes "\"atomic\":") (codes ",\"mixed\":") (codes ",\"in_doubt\":")
    (codes ",\"open\":")
    (c.in_ok-push_count.ensures ∙ ap (λ n. c.args.text.now.items ++ (codes "\"atomic\":" ++ decimal n)) c.count.ensures)
    (c.in_ok-push_count-2.ensures ∙ ap (λ n. c.push_count.new.text.items
    ++ (codes ",\"mixed\":" ++ decimal n)) c.count-2.ensures)
    (c.in_ok-push_count-3.ensures ∙ ap (λ n. c.push_count-2.new.text.items
    ++ (codes ",\"in_doubt\":" ++ decimal n)) c.count-3.ensures)
    (put ∙ ap (λ n. c.push_count-3.new.text.items ++ (codes ",\"open\":" ++ decimal n)) c.count-4.ensures))
