-- What is told of how far a judge is.
--     report_more                 one report more
--     less_fits, sizes_of         reports of sizes that fit one condition fit a weaker one
--     pass_of, told_of            one pass alone
--     passes_of                   what is told up to an event is told in passes
--     passes_on, told_on          passes after others
--     told_found, found_on        a verdict that was found, or none;  after passes
--     whole_told, verdict_on      a pass that begins with the first event;  after passes
--     later_told                  a pass over events that come after others
use Rattle.std.proofs.Common.{◌≡◌, ℕ, ◌+◌, List, ◌++◌, length, sym, subst, zero-add, Option, Some, None, arith, Result}
use Rattle.std.proofs.{Common.{IfOk, IfSome, MatchOption}, lemmas.List.length-append}
use Rattle.xa_server.specs.State.{State}
use Rattle.xa_judge.specs.{declared.{event.Event.Event, so_far.SoFar.SoFar, verdict.Verdict.Verdict}, Told.IsReport}
use Rattle.xa_judge.specs.Told.{AreReports, no_report, one_more, IsSize, ArePasses, no_pass, one_pass, IsToldUpTo}
use Rattle.xa_judge.specs.Told.{IsSizeOfKept, seen_for}

module _ {S : Type 0} {gives : S → SoFar → S → Type 0} where
  -- reports of sizes that fit one condition fit each weaker one
  pub less_fits : {fits less : ℕ → ℕ → Type 0} {first all : ℕ} {old : S} {count : ℕ} {new : S}
      → ((place size : ℕ) → fits place size → less place size)
      → AreReports gives fits first all old count new → AreReports gives less first all old count new
  less_fits weaker no_report = no_report
  less_fits weaker (one_more count mid size new before fit report) =
      one_more count mid size new (less_fits weaker before) (weaker count size fit) report

  -- reports of the sizes of what is kept are reports of sizes (`IsSize`)
  pub sizes_of : {base : State} {events : List Event} {first all : ℕ} {old : S} {count : ℕ} {new : S}
      → AreReports gives (IsSizeOfKept base events) first all old count new
      → AreReports gives IsSize first all old count new
  sizes_of reports = less_fits (λ place size kept. kept.is_size) reports

  -- one pass of reports is passes (`ArePasses`)
  pub pass_of : {first all : ℕ} {old : S} {count : ℕ} {new : S} → AreReports gives IsSize first all old count new
      → ArePasses gives all old new
  pass_of {first} {all} {old} {count} {new} reports = one_pass old first count new no_pass reports

  -- one pass alone tells up to where it ends
  pub told_of : {first all seen : ℕ} {old : S} {count : ℕ} {new : S}
      → AreReports gives IsSize first all old count new → first + count ≡ seen → IsToldUpTo gives all seen old new
  told_of {first} {old = old} {count} reports up_to =
      record { mid = old; passes = no_pass; first = first; count = count; last = reports; up_to = up_to }

  -- passes after other passes are passes
  pub passes_on : {all : ℕ} {old mid new : S} → ArePasses gives all old mid → ArePasses gives all mid new
      → ArePasses gives all old new
  passes_on passes no_pass = passes
  passes_on passes (one_pass mid first count new more reports) =
      one_pass mid first count new (passes_on passes more) reports

  -- what is told up to an event is told in passes
  pub passes_of : {all seen : ℕ} {old new : S} → IsToldUpTo gives all seen old new → ArePasses gives all old new
  passes_of {new = new} told = one_pass told.mid told.first told.count new told.passes told.last

  -- what is told up to an event after passes is told up to it with these
  pub told_on : {all seen : ℕ} {old mid new : S} → ArePasses gives all old mid → IsToldUpTo gives all seen mid new
      → IsToldUpTo gives all seen old new
  told_on passes told = grind (arith, passes_on)

  -- after reports before `count` events, one report more, before the next event and of a size that fits, makes
  -- reports before `count + 1` events
  pub report_more : {fits : ℕ → ℕ → Type 0} {first all count : ℕ} {old mid : S} {size : ℕ} {new : S}
      → AreReports gives fits first all old count mid → fits count size
      → IsReport gives (first + count) all size mid new → AreReports gives fits first all old (count + 1) new
  report_more {count = count} {mid = mid} {size = size} {new = new} before fit report =
      one_more count mid size new before fit report

  -- if the events are told up to `seen`, which is how many a verdict is about (`seen_for`) if one was found, they are
  -- told as what was found says: up to that many, or in passes if there is no verdict
  pub told_found : (events : List Event) {all seen : ℕ} {old new : S} (found : Option Verdict)
      → IfSome found (λ verdict. seen_for events verdict ≡ seen) → IsToldUpTo gives all seen old new
      → MatchOption found (ArePasses gives all old new)
      (λ verdict. IsToldUpTo gives all (seen_for events verdict) old new)
  told_found events None legal told = passes_of told
  told_found events {all} {old} {new} (Some verdict) legal told =
      subst (λ n. IsToldUpTo gives all n old new) (sym legal) told

  -- what is told after passes of what was found, a verdict or none, is told with these passes, too
  pub found_on : {E : Type 0} (events : List Event) {all : ℕ} {old mid : S} (new : S)
      (result : Result (Option Verdict) E) → ArePasses gives all old mid
      → IfOk result (λ found. MatchOption found (ArePasses gives all mid new)
      (λ verdict. IsToldUpTo gives all (seen_for events verdict) mid new))
      → IfOk result (λ found. MatchOption found (ArePasses gives all old new)
      (λ verdict. IsToldUpTo gives all (seen_for events verdict) old new))
  found_on events new result passes more = grind (arith, passes_on)

  -- a pass that begins with the first event tells up to where it ends
  pub whole_told : {base : State} {events : List Event} {all seen : ℕ} {old new : S}
      → AreReports gives (IsSizeOfKept base events) 0 (0 + all) old seen new → IsToldUpTo gives all seen old new
  whole_told {base} {events} {all} {seen} {old} {new} reports =
      subst (λ n. IsToldUpTo gives n seen old new) (zero-add all) (told_of (sizes_of reports) (zero-add seen))

  -- after passes, if a pass from the first event on goes up to what the verdict is about (`seen_for`), the events are
  -- told up to there
  pub verdict_on : {E : Type 0} (base : State) (events : List Event) {all : ℕ} {old mid : S} (new : S)
      (result : Result Verdict E) → ArePasses gives all old mid
      → IfOk result
      (λ verdict. AreReports gives (IsSizeOfKept base events) 0 (0 + all) mid (seen_for events verdict) new)
      → IfOk result (λ verdict. IsToldUpTo gives all (seen_for events verdict) old new)
  verdict_on base events new result passes more = grind (arith, told_on, whole_told)

  -- a pass over the events that come after others tells up to where it ends
  pub later_told : {base : State} (events first later : List Event) {old : S} {count : ℕ} {new : S}
      → events ≡ first ++ later
      → AreReports gives (IsSizeOfKept base later) (length first) (length first + length later) old count new
      → IsToldUpTo gives (length events) (length first + count) old new
  later_told {base} events first later {old} {count} {new} parts reports =
      grind (arith, length-append, sizes_of, told_of)
