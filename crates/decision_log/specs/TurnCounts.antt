-- Each step of a log with a turn raises the counts of its pass (`looks`, `tries` and `since`) as `Counts` says.
--     see_counts, read_counts, take_counts, draft_counts, publish_counts, release_counts     the laws of the
--                                                                                            transitions
use Rattle.std.{proofs.Common.{ap, ◌∙◌, sym, inl, inr}, specs.Prelude.{◌≡◌, ℕ}}
use mathlib.Core.{Logic.dite, Option.Option}
use Rattle.xa_words.specs.Entry.{Entry}
use Rattle.decision_log.specs.{declared.view.{PassView.PassView, Turn.Turn}, TurnRule.{turn_word, count_for}}
use Rattle.decision_log.specs.Atomic.{Load, Exchange, AtLoad, AtStore, AtExchange, Counts}
use Rattle.decision_log.specs.Counted.{IsCounted, leaves_counts, counts_at_load, counts_at_store, counts_at_exchange}
use Rattle.decision_log.specs.TurnTransitions.{tried, Sees, Reads, Takes, Drafts, Publishes, Releases}
use native.Mathlib.Decide.{ℕ_discrete}

-- `Sees`, the load of how many entries there are, is a look, and raises the counts as a look does
pub see_counts : IsCounted count_for turn_word (AtLoad Sees)
see_counts =
    counts_at_load Sees
    (λ word old found new is. record {
      looks = inl (ap (λ h. h.known.looks) is.2, is.0, is.3 ∙ ap count_for (sym is.2));
      tries = inr (ap (λ h. h.known.tries) is.2, λ never. never);
      since = ((λ _. ap (λ h. h.known.since) is.2), (λ never. absurd never), (λ other _. absurd (other is.0)));
    })

-- `Reads`, the load of an entry's word, is no look and no try, and leaves the counts
pub read_counts : IsCounted count_for turn_word (AtLoad Reads)
read_counts =
    counts_at_load Reads
    (λ word old found new is. leaves_counts (Load word) found old new (ap (λ h. h.known.looks) is.1)
    (ap (λ h. h.known.tries) is.1) (ap (λ h. h.known.since) is.1) is.0
    (λ never. never))

-- an exchange of the turn's word, after which the pass is `tried`, raises the counts as a try does, won or lost
tried_counts : (word from to : ℕ) (said : Option Entry) (old : PassView) (found : ℕ) (new : PassView) {turn : Turn}
    → word ≡ turn_word → new ≡ tried old turn
    → Counts count_for turn_word (Exchange word from to said) found old new
tried_counts word from to said old found new at is = record {
  looks = inr (ap (λ h. h.known.looks) is, λ never. never);
  tries = inl (ap (λ h. h.known.tries) is, at);
  since = ((λ never. absurd never), (λ _. ap (λ h. h.known.since) is), (λ _ other. absurd (other at)));
}

-- `Takes`, the exchange of the turn's word, is a try, whether it gets the turn (it finds 0) or not, and raises the
-- counts as a try does
pub take_counts : IsCounted count_for turn_word (AtExchange Takes)
take_counts =
    counts_at_exchange Takes
    (λ word from to said old found new is. dite (ℕ_discrete found 0)
    (λ free. tried_counts word from to said old found new is.0 (is.3 free))
    (λ taken. tried_counts word from to said old found new is.0 (is.4 taken)))

-- `Drafts`, a store of a word of an entry that isn't published yet, leaves the counts: a store neither looks nor tries
pub draft_counts : IsCounted count_for turn_word (AtStore Drafts)
draft_counts =
    counts_at_store Drafts
    (λ word value old found new is.
    (ap (λ h. h.known.looks) is, ap (λ h. h.known.tries) is, ap (λ h. h.known.since) is))

-- `Publishes`, the store of how many entries there are, leaves the counts: a store neither looks nor tries
pub publish_counts : IsCounted count_for turn_word (AtStore Publishes)
publish_counts =
    counts_at_store Publishes
    (λ word value old found new is.
    (ap (λ h. h.known.looks) is.5, ap (λ h. h.known.tries) is.5, ap (λ h. h.known.since) is.5))

-- `Releases`, the store that gives the turn back, leaves the counts: a store neither looks nor tries
pub release_counts : IsCounted count_for turn_word (AtStore Releases)
release_counts =
    counts_at_store Releases
    (λ word value old found new is.
    (ap (λ h. h.known.looks) is.2, ap (λ h. h.known.tries) is.2, ap (λ h. h.known.since) is.2))
