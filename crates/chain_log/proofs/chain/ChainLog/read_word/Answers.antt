use Rattle.std.{proofs.Common.{◌≡◌, ℕ, ◌+◌, List, ◌∷◌, get_or, one-add, sym, ap, ◌∙◌, arith}, specs.Prelude.slice_index}
use Rattle.xa_words.specs.Words.{words_of}
use Rattle.decision_log.specs.Seats.{pass_view}
use Rattle.chain_log.specs.Cells.{name_before}
use Rattle.chain_log.proofs.chain.ChainLog.read_word.Goals as goal

-- the words of a cell behind its link
behind_link : (link : ℕ) (words : List ℕ) (index : ℕ) → slice_index (link ∷ words) (1 + index) ≡ get_or words index 0
behind_link link words index = ap (λ n. get_or (link ∷ words) n 0) (one-add index)

pub returns-then-is_behind_text-clause-read : goal.returns-then-is_behind_text-clause-read
returns-then-is_behind_text-clause-read c row entry named is known before =
    let past = c.if-is_behind_text.true in
    let e = c.is_behind_text.ensures in
    (known (omega (arith, e.behind past)), sym (e.zero past entry before))

pub returns-clause-read : goal.returns-clause-read
returns-clause-read c row entry named is known before =
    let h = pass_view c.args.seat.now in
    let told = c.load_word.ensures.read row entry named is in
    (told.0, told.1 ∙ behind_link (name_before h.sessions h.known.seen row) (words_of entry) c.args.index)
