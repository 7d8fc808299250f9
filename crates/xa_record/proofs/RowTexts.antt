-- The identifiers that texts say, one by one.
use Rattle.std.proofs.Common.{◌≡◌, ℕ, ◌+◌, ◌<◌, Option, Some, None, List, [], ◌∷◌, ◌++◌, length, take, get_or, refl, ap}
use Rattle.std.proofs.{Common.{sym, ◌∙◌, Bor}, lemmas.List.take_more}
use Rattle.xa_xid.specs.declared.xid.Xid.{Xid}
use Rattle.xa_record.specs.{Rows.row_said, Kept.{row_before, rows_kept}}

-- putting a row, if there is one, before two joined lists is putting it before the first of them
row_before-append : (row : Option Xid) (rows more : List Xid)
    → row_before row (rows ++ more) ≡ row_before row rows ++ more
row_before-append None rows more = refl
row_before-append (Some row) rows more = refl

-- one text more adds its identifier, if it has one, behind those of the other texts
pub rows_behind : (texts : List (Bor (List ℕ))) (text : Bor (List ℕ))
    → rows_kept (texts ++ text ∷ []) ≡ rows_kept texts ++ row_before (row_said text.now) []
rows_behind [] text = refl
rows_behind (first ∷ texts) text =
    ap (row_before (row_said first.now)) (rows_behind texts text)
    ∙ row_before-append (row_said first.now) (rows_kept texts) (row_before (row_said text.now) [])

-- the loop over texts: once the identifier of one more is added, if it has one, the list has those of all texts up to
-- it
pub rows_kept-more : (texts : List (Bor (List ℕ))) (old new : List Xid) (index : ℕ) (none : Bor (List ℕ))
    → index < length texts
    → old ≡ rows_kept (take index texts) → new ≡ old ++ row_before (row_said (get_or texts index none).now) []
    → new ≡ rows_kept (take (index + 1) texts)
rows_kept-more texts old new index none within before put =
    put ∙ ap (λ x. x ++ row_before (row_said (get_or texts index none).now) []) before
    ∙ sym (rows_behind (take index texts) (get_or texts index none))
    ∙ sym (ap rows_kept (take_more texts index none within))
