-- Each step of a ring raises the counts of its pass (`looks`, `tries` and `since`) as `Counts` of decision_log says.
--     see_counts, check_counts, read_counts, find_counts, draft_counts, exchange_counts     the laws of the transitions
use Rattle.std.{specs.Prelude.ℕ, proofs.Common.{ap, ◌∙◌, sym, inl, inr}}
use mathlib.Core.{Option.{Option, none, some}, Logic.dite}
use Rattle.xa_words.specs.Entry.{Entry}
use Rattle.decision_log.specs.declared.view.PassView.{PassView}
use Rattle.decision_log.specs.Atomic.{Load, Exchange, AtLoad, AtStore, AtExchange, Counts}
use Rattle.decision_log.specs.Counted.{IsCounted, leaves_counts, counts_at_load, counts_at_store, counts_at_exchange}
use Rattle.chain_log.specs.RingRule.{try_word, newest_for}
use Rattle.chain_log.specs.RingTransitions.{Sees, Checks, Reads, Finds, Drafts, Exchanges}
use native.Mathlib.Decide.{ℕ_discrete}

-- `Sees`, the load of the newest entry's name, is a look, and raises the counts as a look does
pub see_counts : IsCounted newest_for try_word (AtLoad Sees)
see_counts =
    counts_at_load Sees
    (λ word old found new is. record {
      looks = inl (ap (λ h. h.known.looks) is.2, is.0, is.3 ∙ ap newest_for (sym is.2));
      tries = inr (ap (λ h. h.known.tries) is.2, λ never. never);
      since = ((λ _. ap (λ h. h.known.since) is.2), (λ never. absurd never), (λ other _. absurd (other is.0)));
    })

-- `Checks`, the load of the name in a cell, is no look and no try, and leaves the counts
pub check_counts : IsCounted newest_for try_word (AtLoad Checks)
check_counts =
    counts_at_load Checks
    (λ word old found new is. leaves_counts (Load word) found old new (ap (λ h. h.known.looks) is.2)
    (ap (λ h. h.known.tries) is.2) (ap (λ h. h.known.since) is.2) is.0
    (λ never. never))

-- `Reads`, the load of a cell's word, is no look and no try, and leaves the counts
pub read_counts : IsCounted newest_for try_word (AtLoad Reads)
read_counts =
    counts_at_load Reads
    (λ word old found new is. leaves_counts (Load word) found old new (ap (λ k. k.looks) is.1.known)
    (ap (λ k. k.tries) is.1.known) (ap (λ k. k.since) is.1.known) is.0
    (λ never. never))

-- `Finds`, the load of a word of the own cell, is no look and no try, and leaves the counts
pub find_counts : IsCounted newest_for try_word (AtLoad Finds)
find_counts =
    counts_at_load Finds
    (λ word old found new is. leaves_counts (Load word) found old new (ap (λ h. h.known.looks) is.1)
    (ap (λ h. h.known.tries) is.1) (ap (λ h. h.known.since) is.1) is.0
    (λ never. never))

-- `Drafts`, a store into a cell that isn't published yet, leaves the counts: a store neither looks nor tries
pub draft_counts : IsCounted newest_for try_word (AtStore Drafts)
draft_counts =
    counts_at_store Drafts
    (λ word value old found new is.
    (ap (λ h. h.known.looks) is, ap (λ h. h.known.tries) is, ap (λ h. h.known.since) is))

-- `Exchanges`, the exchange of the newest entry's name, is a try, won or lost, and raises the counts as a try does
pub exchange_counts : IsCounted newest_for try_word (AtExchange Exchanges)
exchange_counts = counts_at_exchange Exchanges counted
  where
    counted : (word from to : ℕ) (said : Option Entry) (old : PassView) (found : ℕ) (new : PassView)
        → Exchanges word from to said old found new
        → Counts newest_for try_word (Exchange word from to said) found old new
    counted word from to none old found new is = absurd is
    counted word from to (some entry) old found new is =
        dite (ℕ_discrete found from)
        (λ same.
        let added = is.3 same in
        record {
          looks = inr (ap (λ h. h.known.looks) added, λ never. never);
          tries = inl (ap (λ h. h.known.tries) added, is.0);
          since = ((λ never. absurd never), (λ _. ap (λ h. h.known.since) added), (λ _ other. absurd (other is.0)));
        })
        (λ other. let seen = (is.4 other).1 in record {
          looks = inr (ap (λ h. h.known.looks) seen, λ never. never);
          tries = inl (ap (λ h. h.known.tries) seen, is.0);
          since = ((λ never. absurd never), (λ _. ap (λ h. h.known.since) seen), (λ _ still. absurd (still is.0)));
        })
