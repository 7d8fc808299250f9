-- A branch fails by writes that were dropped.
use Rattle.std.proofs.Common.{◌≡◌, ◌↔◌, List, [], ◌∷◌, ◌++◌, refl, ap, sym, ◌∙◌, subst, Bool, true, false, append_assoc}
use Rattle.std.proofs.{Common.append-nil, lemmas.List.Folds.{list_all-append, list_any-append}}
use Rattle.std.specs.{Prelude.{Option, Some, None, ◌||◌, ◌&&◌, not}, List.{list_any, list_all}}
use Rattle.std.specs.Option.{option_map, option_map_or, unwrap_or}
use mathlib.Core.Bool.{true≢false}
use Rattle.xa_audit.specs.declared.deed.Deed.{Deed, TheVariants.{Starts, Writes, Prepares, Commits, RollsBack}}
use Rattle.xa_audit.specs.declared.{ends.End.End, lives.{Life.Life, Lives.Lives}}
use Rattle.xa_audit.{specs.Globals.{is_committed, is_rolled_back, last_end}, proofs.{Lists.last_more, Taking.took_by}}
use Rattle.xa_audit.specs.{Laws.{is_write, is_within, DropsWrites, FailsBy}, Lives.{no_lives, noted, dropped}}
use Rattle.xa_audit.specs.Lives.{dropped_by, written_life, prepared_life, left_by, left_going, ends_in, lives_after}

-- the deeds end within a life, which goes on; `wrote` says whether one of the life's deeds is a write
record GoesOn (wrote : Bool) (deeds : List Deed) : Type 0 where
  before : List Deed
  life : List Deed
  cut : deeds ≡ before ++ (Starts ∷ life)
  within : list_all is_within life ≡ true
  total : list_any is_write life ≡ wrote

-- what lives tell of the deeds that they come from: if a life goes on, whether it has written; if none does and the
-- last end is ROLLED BACK, that the last life's writes were dropped
Tells : Option Life → List End → List Deed → Type 0
Tells None over deeds = last_end over ≡ Some End.RolledBack → DropsWrites deeds
Tells (Some life) over deeds = GoesOn life.wrote deeds

-- if two tests hold, both hold together
and_true : (a b : Bool) → a ≡ true → b ≡ true → (a && b) ≡ true
and_true a b p q = cc

-- if both of two tests hold, the first does
and_left : (a b : Bool) → (a && b) ≡ true → a ≡ true
and_left true b p = refl
and_left false b p = absurd (true≢false (sym p))

-- if both of two tests hold, the second does
and_right : (a b : Bool) → (a && b) ≡ true → b ≡ true
and_right true b p = p
and_right false b p = absurd (true≢false (sym p))

-- a test whose negation holds fails
not_false : (a : Bool) → not a ≡ true → a ≡ false
not_false true p = absurd (true≢false (sym p))
not_false false p = refl

-- one of two tests holds if the second is true
or_true : (a : Bool) → (a || true) ≡ true
or_true true = refl
or_true false = refl

-- the first of two tests decides if the second is false
or_false : (a : Bool) → (a || false) ≡ a
or_false true = refl
or_false false = refl

-- a life of one deed that is within it has only deeds within it
one_within : (deed : Deed) → is_within deed ≡ true → list_all is_within (deed ∷ []) ≡ true
one_within deed is = and_true (is_within deed) true is refl

-- deeds within a life are still within it with one more that neither begins nor ends a life
within_more : (life : List Deed) (deed : Deed) → list_all is_within life ≡ true → is_within deed ≡ true
    → list_all is_within (life ++ deed ∷ []) ≡ true
within_more life deed all is =
    list_all-append is_within life (deed ∷ []) ∙ and_true (list_all is_within life) (list_all is_within (deed ∷ [])) all
    (one_within deed is)

-- one deed more within a life goes on with it: it has written if it had, or if this deed is a write
on_more : (wrote now : Bool) (deeds : List Deed) (deed : Deed) → is_within deed ≡ true
    → (wrote || (is_write deed || false)) ≡ now → GoesOn wrote deeds
    → GoesOn now (deeds ++ deed ∷ [])
on_more wrote now deeds deed is sum on = record {
  before = on.before;
  life = on.life ++ deed ∷ [];
  cut = ap (λ l. l ++ deed ∷ []) on.cut ∙ append_assoc on.before (Starts ∷ on.life) (deed ∷ []);
  within = within_more on.life deed on.within is;
  total = list_any-append is_write on.life (deed ∷ []) ∙ ap (λ b. b || (is_write deed || false)) on.total ∙ sum;
}

-- where writes are dropped, they still are after one more deed that neither begins a life nor ends one
drops_more : (deeds : List Deed) (deed : Deed) → is_within deed ≡ true → DropsWrites deeds
    → DropsWrites (deeds ++ deed ∷ [])
drops_more deeds deed is drops = record {
  before = drops.before;
  life = drops.life;
  later = drops.later ++ deed ∷ [];
  cut =
      ap (λ l. l ++ deed ∷ []) drops.cut ∙ append_assoc drops.before
      (Starts ∷ (drops.life ++ (RollsBack ∷ drops.later))) (deed ∷ [])
      ∙ ap (λ l. drops.before ++ (Starts ∷ l)) (append_assoc drops.life (RollsBack ∷ drops.later) (deed ∷ []));
  within = drops.within;
  wrote = drops.wrote;
  last = within_more drops.later deed drops.last is;
}

-- if deeds end within a life that wrote, a rollback after them drops its writes
now_dropped : (deeds : List Deed) → GoesOn true deeds → DropsWrites (deeds ++ RollsBack ∷ [])
now_dropped deeds on = record {
  before = on.before;
  life = on.life;
  later = [];
  cut = ap (λ l. l ++ RollsBack ∷ []) on.cut ∙ append_assoc on.before (Starts ∷ on.life) (RollsBack ∷ []);
  within = on.within;
  wrote = on.total;
  last = refl;
}

-- if an end that isn't ROLLED BACK stands last, the last end can't be ROLLED BACK: this case doesn't arise
other_last : (over : List End) (end : End) (deeds : List Deed) → (Some end ≡ Some End.RolledBack → ⊥)
    → last_end (over ++ end ∷ []) ≡ Some End.RolledBack → DropsWrites deeds
other_last over end deeds apart is = absurd (apart (sym (last_more over end) ∙ is))

-- if lives tell of deeds what `Tells` says, they still do after one deed more: a write
writes_step : (going : Option Life) (over : List End) (deeds : List Deed) → Tells going over deeds
    → Tells (option_map written_life going) over (deeds ++ Writes ∷ [])
unfolding Tells
writes_step None over deeds tells = λ is. drops_more deeds Writes refl (tells is)
writes_step (Some life) over deeds tells = on_more life.wrote true deeds Writes refl (or_true life.wrote) tells

-- if lives tell of deeds what `Tells` says, they still do after one deed more: a prepare
prepares_step : (going : Option Life) (over : List End) (deeds : List Deed) → Tells going over deeds
    → Tells (option_map prepared_life going) over (deeds ++ Prepares ∷ [])
unfolding Tells
prepares_step None over deeds tells = λ is. drops_more deeds Prepares refl (tells is)
prepares_step (Some life) over deeds tells =
    on_more life.wrote life.wrote deeds Prepares refl (or_false life.wrote) tells

-- if a rollback ends the life that goes on, and ROLLED BACK is noted as its end, the life's writes were dropped
by_wrote : (wrote : Bool) (over : List End) (deeds : List Deed) → GoesOn wrote deeds
    → last_end (over ++ dropped_by wrote ∷ []) ≡ Some End.RolledBack
    → DropsWrites (deeds ++ RollsBack ∷ [])
by_wrote true over deeds on is = now_dropped deeds on
by_wrote false over deeds on is = other_last over End.Empty (deeds ++ RollsBack ∷ []) (λ e. absurd (cc)) is

-- if lives tell of deeds what `Tells` says, they still do after one deed more: a rollback, which ends the life that
-- goes on
rolls_step : (going : Option Life) (over : List End) (deeds : List Deed) → Tells going over deeds
    → Tells None (over ++ dropped going ∷ []) (deeds ++ RollsBack ∷ [])
unfolding Tells
rolls_step None over deeds tells = λ is. other_last over End.Empty (deeds ++ RollsBack ∷ []) (λ e. absurd (cc)) is
rolls_step (Some life) over deeds tells = λ is. by_wrote life.wrote over deeds tells is

-- if lives tell of deeds what `Tells` says, they still do after one deed more of any kind
step : (lives : Lives) (deeds : List Deed) (deed : Deed) → Tells lives.going lives.over deeds
    → Tells (noted lives deed).going (noted lives deed).over (deeds ++ deed ∷ [])
unfolding Tells
step lives deeds Starts tells = record { before = deeds; life = []; cut = refl; within = refl; total = refl }
step lives deeds Writes tells = writes_step lives.going lives.over deeds tells
step lives deeds Prepares tells = prepares_step lives.going lives.over deeds tells
step lives deeds Commits tells = λ is. other_last lives.over End.Committed (deeds ++ Commits ∷ []) (λ e. absurd (cc)) is
step lives deeds RollsBack tells = rolls_step lives.going lives.over deeds tells

-- what `Tells` says, also where there are no lives yet
TellsAll : Option Lives → List Deed → Type 0
TellsAll lives deeds = Tells (unwrap_or lives no_lives).going (unwrap_or lives no_lives).over deeds

-- if lives, which may be missing, tell of deeds what `TellsAll` says, they still do after any deeds more
steps : (deeds before : List Deed) (lives : Option Lives) → TellsAll lives before
    → TellsAll (lives_after lives deeds) (before ++ deeds)
unfolding lives_after TellsAll
steps [] before lives tells = subst (λ (l : List Deed). TellsAll lives l) (sym (append-nil before)) tells
steps (deed ∷ deeds) before lives tells =
    subst (λ (l : List Deed). TellsAll (lives_after (Some (noted (unwrap_or lives no_lives) deed)) deeds) l)
    (append_assoc before (deed ∷ []) deeds)
    (steps deeds (before ++ deed ∷ []) (Some (noted (unwrap_or lives no_lives) deed))
    (step (unwrap_or lives no_lives) before deed tells))

-- `TellsAll` holds before the first deed, where there is no life
from_none : TellsAll None []
unfolding TellsAll Tells
from_none = λ is. absurd (cc)

-- the lives to which deeds lead from none tell of these deeds what `Tells` says
tells_of : (deeds : List Deed) (lives : Lives) → lives_after None deeds ≡ Some lives
    → Tells lives.going lives.over deeds
unfolding TellsAll
tells_of deeds lives is = subst (λ (l : Option Lives). TellsAll l deeds) is (steps deeds [] None from_none)

-- if an end that may be missing passes the test for ROLLED BACK, it is there and is ROLLED BACK
rolled : (end : Option End) → option_map_or is_rolled_back end false ≡ true → end ≡ Some End.RolledBack
rolled None is = absurd (true≢false (sym is))
rolled (Some End.Committed) is = absurd (true≢false (sym is))
rolled (Some End.RolledBack) is = refl
rolled (Some End.Empty) is = absurd (true≢false (sym is))
rolled (Some End.InDoubt) is = absurd (true≢false (sym is))
rolled (Some End.Open) is = absurd (true≢false (sym is))

-- a life that is left open or in doubt wasn't rolled back
left_apart : (prepared : Bool) → Some (left_by prepared) ≡ Some End.RolledBack → ⊥
left_apart true e = absurd (cc)
left_apart false e = absurd (cc)

-- if the last end is ROLLED BACK, the writes of the deeds' last life were dropped
drops_by : (going : Option Life) (over : List End) (deeds : List Deed) → Tells going over deeds
    → last_end (over ++ left_going going) ≡ Some End.RolledBack
    → DropsWrites deeds
unfolding Tells
drops_by None over deeds tells is = tells (ap last_end (sym (append-nil over)) ∙ is)
drops_by (Some life) over deeds tells is =
    absurd (left_apart life.prepared (sym (last_more over (left_by life.prepared)) ∙ is))

-- if none of a branch's lives is COMMITTED and the last is ROLLED BACK, it fails by its deeds: its last life's writes
-- were dropped (`FailsBy`)
pub fails_by : (deeds : List Deed) (lives : Lives) → lives_after None deeds ≡ Some lives
    → (not (list_any is_committed (ends_in lives)) && option_map_or is_rolled_back (last_end (ends_in lives)) false)
    ≡ true → FailsBy deeds
fails_by deeds lives is failed = (
  sym (took_by deeds) ∙ ap (λ l. option_map_or (λ (x : Lives). list_any is_committed (ends_in x)) l false) is
      ∙ not_false (list_any is_committed (ends_in lives)) (and_left _ _ failed),
  drops_by lives.going lives.over deeds (tells_of deeds lives is)
      (rolled (last_end (ends_in lives)) (and_right _ _ failed)),
)

-- the lives after two lists of deeds are those after the second, from where the first ends
after_more : (lives : Option Lives) (xs ys : List Deed)
    → lives_after lives (xs ++ ys) ≡ lives_after (lives_after lives xs) ys
unfolding lives_after
after_more lives [] ys = refl
after_more lives (x ∷ xs) ys = after_more (Some (noted (unwrap_or lives no_lives) x)) xs ys

-- a life goes on, and `wrote` says whether it has written
Goes : Bool → Option Life → Type 0
Goes wrote None = ⊥
Goes wrote (Some life) = life.wrote ≡ wrote

-- a life after a write has written
wrote_now : (wrote : Bool) (going : Option Life) → Goes wrote going → Goes true (option_map written_life going)
unfolding Goes
wrote_now wrote None goes = goes
wrote_now wrote (Some life) goes = refl

-- a life after a prepare has written if it had before
prepared_now : (wrote : Bool) (going : Option Life) → Goes wrote going → Goes wrote (option_map prepared_life going)
unfolding Goes
prepared_now wrote None goes = goes
prepared_now wrote (Some life) goes = goes

-- the deeds lead from some lives to others, in which a life goes on; `wrote` says whether that has written
record Lived (lives : Lives) (wrote : Bool) (deeds : List Deed) : Type 0 where
  now : Lives
  after : lives_after (Some lives) deeds ≡ Some now
  goes : Goes wrote now.going

-- a life after deeds within it has written if it had, or if one of them is a write
lived : (life : List Deed) (lives : Lives) (wrote : Bool) → Goes wrote lives.going → list_all is_within life ≡ true
    → Lived lives (wrote || list_any is_write life) life
unfolding lives_after
lived [] lives wrote goes within =
    record { now = lives; after = refl; goes = subst (λ (b : Bool). Goes b lives.going) (sym (or_false wrote)) goes }
lived (Starts ∷ life) lives wrote goes within = absurd (true≢false (sym within))
lived (Writes ∷ life) lives wrote goes within =
    let rest = lived life (noted lives Writes) true (wrote_now wrote lives.going goes) within in
    record {
      now = rest.now;
      after = rest.after;
      goes = subst (λ (b : Bool). Goes b rest.now.going)
          (sym (or_true wrote)) rest.goes;
    }
lived (Prepares ∷ life) lives wrote goes within =
    let rest = lived life (noted lives Prepares) wrote (prepared_now wrote lives.going goes) within in
    record { now = rest.now; after = rest.after; goes = rest.goes }
lived (Commits ∷ life) lives wrote goes within = absurd (true≢false (sym within))
lived (RollsBack ∷ life) lives wrote goes within = absurd (true≢false (sym within))

-- a life that wrote and is dropped is rolled back
dropped_then : (going : Option Life) → Goes true going → dropped going ≡ End.RolledBack
unfolding Goes
dropped_then None goes = absurd goes
dropped_then (Some life) goes = ap dropped_by goes

-- there are lives, none of them goes on, and the last end is ROLLED BACK
record Ended (lives : Option Lives) : Type 0 where
  now : Lives
  is : lives ≡ Some now
  going : now.going ≡ None
  last : last_end now.over ≡ Some End.RolledBack

-- if no life goes on and the last end is ROLLED BACK, that stays so after deeds that neither begin nor end a life
-- (`Ended`)
still : (later : List Deed) (lives : Lives) → lives.going ≡ None → last_end lives.over ≡ Some End.RolledBack
    → list_all is_within later ≡ true
    → Ended (lives_after (Some lives) later)
unfolding lives_after
still [] lives none last within = record { now = lives; is = refl; going = none; last = last }
still (Starts ∷ later) lives none last within = absurd (true≢false (sym within))
still (Writes ∷ later) lives none last within =
    still later (noted lives Writes) (ap (option_map written_life) none) last within
still (Prepares ∷ later) lives none last within =
    still later (noted lives Prepares) (ap (option_map prepared_life) none) last within
still (Commits ∷ later) lives none last within = absurd (true≢false (sym within))
still (RollsBack ∷ later) lives none last within = absurd (true≢false (sym within))

-- after deeds whose last life's writes were dropped no life goes on, and the last end is ROLLED BACK (`Ended`)
ended_after : (deeds : List Deed) → DropsWrites deeds → Ended (lives_after None deeds)
unfolding lives_after Goes
ended_after deeds drops =
    let begun : Lives = noted (unwrap_or (lives_after None drops.before) no_lives) Starts in
    let life = lived drops.life begun false refl drops.within in
    let end : Lives = noted life.now RollsBack in
    let rolled_back = last_more life.now.over (dropped life.now.going)
    ∙ ap (λ e. Some e) (dropped_then life.now.going (subst
    (λ (b : Bool). Goes b life.now.going) drops.wrote life.goes)) in
    let ended = still drops.later end refl rolled_back drops.last in
    subst (λ (l : Option Lives). Ended l)
    (sym (ap (lives_after None) drops.cut ∙ after_more None drops.before
    (Starts ∷ (drops.life ++ (RollsBack ∷ drops.later)))
    ∙ after_more (Some begun) drops.life (RollsBack ∷ drops.later)
    ∙ ap (λ l. lives_after l (RollsBack ∷ drops.later)) life.after))
    ended

-- lives that are found in two equal results are equal
ended_is : (lives now : Lives) → Some lives ≡ Some now → lives ≡ now
ended_is lives now is = cc

-- if a branch fails by its deeds (`FailsBy`), none of its lives is COMMITTED and the last is ROLLED BACK
pub failed_by : (deeds : List Deed) (lives : Lives) → lives_after None deeds ≡ Some lives → FailsBy deeds
    → (not (list_any is_committed (ends_in lives)) && option_map_or is_rolled_back (last_end (ends_in lives)) false)
    ≡ true
failed_by deeds lives is (none, drops) =
    let ended = ended_after deeds drops in
    let same : ended.now ≡ lives = ended_is ended.now lives (sym ended.is ∙ is) in
    let going : lives.going ≡ None = ap (λ (l : Lives). l.going) (sym same) ∙ ended.going in
    let last : last_end (ends_in lives) ≡ Some End.RolledBack =
    ap (λ g. last_end (lives.over ++ left_going g)) going ∙ ap last_end (append-nil lives.over)
    ∙ ap (λ (l : Lives). last_end l.over) (sym same) ∙ ended.last in
    let untaken : list_any is_committed (ends_in lives) ≡ false =
    sym (ap (λ l. option_map_or (λ (x : Lives). list_any is_committed (ends_in x)) l false) is) ∙ took_by deeds
    ∙ none in
    and_true (not (list_any is_committed (ends_in lives)))
    (option_map_or is_rolled_back (last_end (ends_in lives)) false)
    (ap not untaken) (ap (λ e. option_map_or is_rolled_back e false) last)

-- none of the lives is COMMITTED, and the last is ROLLED BACK
abbrev has_failed : Lives → Bool
has_failed lives =
    not (list_any is_committed (ends_in lives)) && option_map_or is_rolled_back (last_end (ends_in lives)) false

-- a branch that has lives, and failed by them (`has_failed`), failed by its deeds (`FailsBy`)
fails_of : (deeds : List Deed) (lives : Option Lives) → lives_after None deeds ≡ lives
    → option_map_or has_failed lives false ≡ true → FailsBy deeds
fails_of deeds None is failed = absurd (true≢false (sym failed))
fails_of deeds (Some lives) is failed = fails_by deeds lives is failed

-- a branch that failed by its deeds (`FailsBy`) has lives, and failed by them (`has_failed`)
failed_of : (deeds : List Deed) (lives : Option Lives) → lives_after None deeds ≡ lives → FailsBy deeds
    → option_map_or has_failed lives false ≡ true
failed_of deeds None is (none, drops) = absurd (cc (sym is ∙ (ended_after deeds drops).is))
failed_of deeds (Some lives) is fails = failed_by deeds lives is fails

-- a branch has lives and failed by them if, and only if, it failed by its deeds (`FailsBy`)
pub fails_iff : (deeds : List Deed) → (option_map_or has_failed (lives_after None deeds) false ≡ true) ↔ FailsBy deeds
fails_iff deeds = (fails_of deeds (lives_after None deeds) refl, failed_of deeds (lives_after None deeds) refl)
