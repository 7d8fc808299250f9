use Rattle.std.proofs.{Common.{◌≡◌, ◌∙◌, ◌++◌, [], ◌∷◌, ap, sym, lit<}, lemmas.Fmt.decimal_digit}
use Rattle.std.specs.Prelude.{codes, decimal}
use Rattle.xa_manager.proofs.call_server.unread.Goals as goal

pub returns : goal.returns
returns c =
    let e : decimal 0 ≡ 48 ∷ [] = decimal_digit 0 (lit< tt) in
    c.short_answer.ensures ∙ ap (λ d. (codes "ERROR 1064 (42000): syntax fault at byte " ++ d) ++ codes "\n") (sym e)
