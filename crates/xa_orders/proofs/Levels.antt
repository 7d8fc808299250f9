-- Ways with one turn more: each configuration to which they come is listed, with its least order.
use Rattle.std.proofs.Common.{◌≡◌, ◌⊎◌, ℕ, ◌+◌, ◌<◌, Option, Some, None, Vec, Global, IfSome, List, [], ◌∷◌, ◌++◌}
use Rattle.std.proofs.{Common.{length, take, get_or, refl, sym, ap, ◌∙◌, subst, inl, inr, arith}, lemmas.Bool.cases_lt}
use Rattle.std.proofs.lemmas.{Bool.Decides.nat_tests, Option.{none-some, same_Some}, List.{length_push, take_more}}
use Rattle.std.{proofs.lemmas.{List.Elements.{All-push, All-weaker}, Grind.common_steps}, specs.List.All}
use Rattle.xa_orders.specs.declared.way.Way.{Way}
use Rattle.xa_orders.specs.Orders.{Told, Config, opening, turn, IsSession, LeadsTo, Precedes, AtMost, Any, IsAscending}
use Rattle.xa_orders.specs.Found.{config_of, order_of, IsReached, HasBy, IsLevel, IsTurn, Covers, IsNextOf, AllPrecede}
use Rattle.xa_orders.{specs.Found.{AddsUnlessThere, IsTurnAdded, IsWideNext, IsWide, IsOpening}, proofs.Lists.any_left}
use Rattle.xa_orders.proofs.Lists.{any_push, any_weaker, any_with, any_both, pairwise_push, pairwise_front, split_last}
use Rattle.xa_orders.proofs.Lists.{precedes_append, precedes_last, at_most_append, at_most_trans}
use Rattle.xa_server.specs.State.{State}

-- an order of turns that leads somewhere leads on by one turn more
pub leads_more : (lines : List Told) (old mid new : Config) (order : List ℕ) (session : ℕ) → LeadsTo lines old order mid
    → IsSession session
    → turn lines mid session ≡ Some new
    → LeadsTo lines old (order ++ session ∷ []) new
leads_more lines old mid new [] session leads is at = (new, is, ap (λ c. turn lines c session) (sym leads) ∙ at, refl)
leads_more lines old mid new (first ∷ order) session leads is at =
    (leads.0, leads.1, leads.2, leads_more lines leads.0 mid new order session leads.3 is at)

-- an order leads somewhere by its turns before the last, and then by the last turn
pub leads_last : (lines : List Told) (old new : Config) (order : List ℕ) (session : ℕ)
    → LeadsTo lines old (order ++ session ∷ []) new
    → (mid : Config) × LeadsTo lines old order mid × IsSession session × (turn lines mid session ≡ Some new)
leads_last lines old new [] session leads = (old, refl, leads.1, leads.2 ∙ ap Some (sym leads.3))
leads_last lines old new (first ∷ order) session leads =
    let rest = leads_last lines leads.0 new order session leads.3 in
    (rest.0, (leads.0, leads.1, leads.2, rest.1), rest.2, rest.3)

-- a configuration that a list had, with an order at most as great, it still has when a way is added
pub has_kept : (old new : List Way) (one : Way) (config : Config) (order : List ℕ) → AddsUnlessThere old one new
    → HasBy old config order → HasBy new config order
has_kept old new one config order is has = grind (arith, any_left)

-- `new` was found by a turn of one of the front, or by the turn of `way` of a session below the number
abbrev pub IsFrom : List Told → List Way → Way → ℕ → Way → Type 0
IsFrom lines front way number new =
    Any (λ one. (session : ℕ) × IsTurn lines session one new) front
    ⊎ ((session : ℕ) × (session < number) × IsTurn lines session way new)

-- the loop over ways and sessions: `list` is what these turns lead to: all of the ways of `front`, and those of `way`
-- of sessions below the number
pub record IsHalfway (lines : List Told) (front : List Way) (way : Way) (number : ℕ) (list : List Way) : Type 0 where
  pub each : All (IsFrom lines front way number) list
  pub fronts : All (λ one. Covers lines 17 one list) front
  pub own : Covers lines number way list
  pub ascending : IsAscending order_of list

-- if the list is what one more turn of the ways before this one leads to, `IsHalfway` holds of it with number 1
pub halfway_first : (lines : List Told) (front : List Way) (way : Way) (list : List Way) → IsNextOf lines front list
    → IsHalfway lines front way 1 list
halfway_first lines front way list next = grind (arith)

-- what was found before a session's turn comes before the way's order with that turn
before_turn : (lines : List Told) (front : List Way) (way : Way) (number : ℕ) (new : Way) → AllPrecede front way
    → IsFrom lines front way number new
    → Precedes new.order.items (way.order.items ++ number ∷ [])
before_turn lines front way number new precede (inl any) =
    any_with (λ one. Precedes one.order.items way.order.items) (λ one. (session : ℕ) × IsTurn lines session one new)
    (Precedes new.order.items (way.order.items ++ number ∷ []))
    (λ one less by. subst (λ l. Precedes l (way.order.items ++ number ∷ [])) (sym by.1.order_is)
    (precedes_append one.order.items way.order.items (by.0 ∷ []) (number ∷ []) less))
    front precede any
before_turn lines front way number new precede (inr own) =
    subst (λ l. Precedes l (way.order.items ++ number ∷ [])) (sym own.2.order_is)
    (precedes_last way.order.items own.0 number own.1)

-- a session below the number after another is below that one, or is it
below_more : (session number : ℕ) → session < number + 1 → (session < number) ⊎ (session ≡ number)
below_more session number below = grind (arith, cases_lt)

-- a way that was found by sessions below a number was found by those below the next one
from_more : (lines : List Told) (front : List Way) (way : Way) (number : ℕ) (new : Way)
    → IsFrom lines front way number new
    → IsFrom lines front way (number + 1) new
from_more lines front way number new is = grind (arith)

module _ (lines : List Told) (front : List Way) (way : Way) (number : ℕ) (old : List Way)
    (half : IsHalfway lines front way number old) where
  -- each way of the list was found by a turn of the ways before this one, or of this way by a session below the next
  -- number
  more_each : All (IsFrom lines front way (number + 1)) old
  more_each = grind (arith, from_more)

  -- if the session of this number has no turn, `IsHalfway` holds of the list with the next number
  halfway_none : (IsSession number → turn lines (config_of way) number ≡ None)
      → IsHalfway lines front way (number + 1) old
  halfway_none is = grind (arith, below_more, none-some)

  -- if the turn of this number's session leads to a configuration that the list has, `IsHalfway` holds of the list with
  -- the next number
  halfway_there : (next : Way) → AllPrecede front way → IsTurn lines number way next
      → Any (λ one. config_of one ≡ config_of next) old
      → IsHalfway lines front way (number + 1) old
  halfway_there next precede is_turn there = record {
    each = more_each;
    fronts = half.fronts;
    own = λ session config below is at. by session config is at (below_more session number below);
    ascending = half.ascending;
  }
    where
      by : (session : ℕ) (config : Config) → IsSession session → turn lines (config_of way) session ≡ Some config
          → (session < number) ⊎ (session ≡ number)
          → HasBy old config (way.order.items ++ session ∷ [])
      by session config is at (inl less) = half.own session config less is at
      by session config is at (inr same) =
          let target : config_of next ≡ config =
          same_Some (config_of next) config (sym is_turn.leads ∙ ap (turn lines (config_of way)) (sym same) ∙ at) in
          any_both (IsFrom lines front way number) (λ one. config_of one ≡ config_of next)
          (λ one. (config_of one ≡ config) × AtMost one.order.items (way.order.items ++ session ∷ []))
          (λ one from came. (
            came ∙ target,
            inr (subst (λ n. Precedes one.order.items (way.order.items ++ n ∷ [])) (sym same)
                (before_turn lines front way number one precede from)),
          ))
          old half.each there

  -- if the way to which the turn of this number's session leads is added, `IsHalfway` holds of the new list with the
  -- next number
  halfway_added : (next : Way) → AllPrecede front way → IsTurn lines number way next
      → IsHalfway lines front way (number + 1) (old ++ next ∷ [])
  halfway_added next precede is_turn = record {
    each = All-push (IsFrom lines front way (number + 1)) old next more_each (inr (number, omega arith, is_turn));
    fronts =
        All-weaker (λ one. Covers lines 17 one old) (λ one. Covers lines 17 one (old ++ next ∷ []))
        (λ one covers session config below is at. kept config (one.order.items ++ session ∷ [])
        (covers session config below is at)) front half.fronts;
    own = λ session config below is at. by session config is at (below_more session number below);
    ascending =
        pairwise_push (λ one other. Precedes (order_of one) (order_of other)) old next half.ascending
        (All-weaker (IsFrom lines front way number) (λ one. Precedes one.order.items next.order.items)
        (λ one from. subst (Precedes one.order.items) (sym is_turn.order_is)
        (before_turn lines front way number one precede from)) old half.each);
  }
    where
      kept : (config : Config) (order : List ℕ) → HasBy old config order → HasBy (old ++ next ∷ []) config order
      kept config order has =
          any_left (λ one. (config_of one ≡ config) × AtMost one.order.items order) old (next ∷ []) has

      by : (session : ℕ) (config : Config) → IsSession session → turn lines (config_of way) session ≡ Some config
          → (session < number) ⊎ (session ≡ number)
          → HasBy (old ++ next ∷ []) config (way.order.items ++ session ∷ [])
      by session config is at (inl less) =
          kept config (way.order.items ++ session ∷ []) (half.own session config less is at)
      by session config is at (inr same) =
          any_push (λ one. (config_of one ≡ config) × AtMost one.order.items (way.order.items ++ session ∷ [])) old
          next (
            same_Some (config_of next) config (sym is_turn.leads ∙ ap (turn lines (config_of way)) (sym same) ∙ at),
            inl (is_turn.order_is ∙ ap (λ n. way.order.items ++ n ∷ []) (sym same)),
          )

  -- the loop over sessions: after the turn of this number's session, `IsHalfway` holds of the new list with the next
  -- number
  pub halfway_more : (new : List Way) → AllPrecede front way → IsTurnAdded lines way number old new
      → IsHalfway lines front way (number + 1) new
  halfway_more new precede is = grind (arith, halfway_added, halfway_none, halfway_there)

-- after session 16 all turns of the way were taken: the list is what one more turn of the ways up to it leads to
pub halfway_done : (lines : List Told) (front : List Way) (way : Way) (list : List Way)
    → IsHalfway lines front way 17 list
    → IsNextOf lines (front ++ way ∷ []) list
halfway_done lines front way list half = record {
  each =
      All-weaker (IsFrom lines front way 17) (λ new. Any (λ one. (session : ℕ) × IsTurn lines session one new)
      (front ++ way ∷ []))
      (λ new from. by new from) list half.each;
  all = All-push (λ one. Covers lines 17 one list) front way half.fronts half.own;
  ascending = half.ascending;
}
  where
    by : (new : Way) → IsFrom lines front way 17 new → Any (λ one. (session : ℕ) × IsTurn lines session one new)
        (front ++ way ∷ [])
    by new (inl any) = any_left (λ one. (session : ℕ) × IsTurn lines session one new) front (way ∷ []) any
    by new (inr own) = any_push (λ one. (session : ℕ) × IsTurn lines session one new) front way (own.0, own.2)

-- a way with one turn more than a way that is reached is reached with one turn more
reached_more : (lines : List Told) (base : Config) (count session : ℕ) (way new : Way) → IsReached lines base count way
    → IsTurn lines session way new
    → IsReached lines base (count + 1) new
reached_more lines base count session way new reached is_turn = grind (arith, leads_more, length_push)

-- ways with one turn more than ways that are reached are reached with one turn more
pub each_reached : (lines : List Told) (base : Config) (count : ℕ) (ways list : List Way)
    → All (IsReached lines base count) ways
    → All (λ new. Any (λ way. (session : ℕ) × IsTurn lines session way new) ways) list
    → All (IsReached lines base (count + 1)) list
each_reached lines base count ways list reached each =
    All-weaker (λ new. Any (λ way. (session : ℕ) × IsTurn lines session way new) ways)
    (IsReached lines base (count + 1))
    (λ new any. any_with (IsReached lines base count) (λ way. (session : ℕ) × IsTurn lines session way new)
    (IsReached lines base (count + 1) new)
    (λ way is by. reached_more lines base count by.0 way new is by.1) ways reached any)
    list each

-- the ways of one turn more, made from all ways of a level, are the next level
pub level_next : (lines : List Told) (base : Config) (count : ℕ) (ways list : List Way) → IsLevel lines base count ways
    → IsNextOf lines ways list
    → IsLevel lines base (count + 1) list
level_next lines base count ways list level next = record {
  each = each_reached lines base count ways list level.each next.each;
  all = all;
  ascending = next.ascending;
}
  where
    by : (front : List ℕ) (session : ℕ) (config : Config) → length (front ++ session ∷ []) ≡ count + 1
        → LeadsTo lines base (front ++ session ∷ []) config
        → HasBy list config (front ++ session ∷ [])
    by front session config count_is leads =
        let last = leads_last lines base config front session leads in
        let size : length front ≡ count = omega (arith, count_is, length_push front session) in
        any_with (λ way. Covers lines 17 way list) (λ way. (config_of way ≡ last.0) × AtMost way.order.items front)
        (HasBy list config (front ++ session ∷ []))
        (λ way covers came.
        any_weaker (λ one. (config_of one ≡ config) × AtMost one.order.items (way.order.items ++ session ∷ []))
        (λ one. (config_of one ≡ config) × AtMost one.order.items (front ++ session ∷ []))
        (λ one there. (
          there.0,
          at_most_trans one.order.items (way.order.items ++ session ∷ []) (front ++ session ∷ []) there.1
              (at_most_append way.order.items front (session ∷ []) came.1),
        ))
        list (covers session config (omega (arith, last.2.1)) last.2 (ap (λ c. turn lines c session) came.0 ∙ last.3)))
        ways next.all (level.all front last.0 size last.1)

    all : (order : List ℕ) (config : Config) → length order ≡ count + 1 → LeadsTo lines base order config
        → HasBy list config order
    all [] config none leads = absurd (omega (arith, none))
    all (first ∷ rest) config count_is leads =
        let split = split_last first rest in
        subst (HasBy list config) (sym split.2)
        (by split.0 split.1 config (ap length (sym split.2) ∙ count_is)
        (subst (λ order. LeadsTo lines base order config) split.2 leads))

-- the one way that has taken no turn, in the first configuration, is the level of no turns
pub level_first : (lines : List Told) (base : Config) (list : List Way) (one : Way) → list ≡ one ∷ []
    → config_of one ≡ base → one.order.items ≡ []
    → IsLevel lines base 0 list
level_first lines base list one is came also = grind (arith, common_steps, nat_tests)

-- the loop over ways: after the turns of one more are added, the list is what one more turn of the ways so far leads
-- to
pub level_step : (lines : List Told) (ways list new : List Way) (index : ℕ) (way : Way) → index < length ways
    → way ≡ get_or ways index way
    → IsAscending order_of ways
    → ((front : List Way) → AllPrecede front way → IsNextOf lines front list → IsNextOf lines (front ++ way ∷ []) new)
    → IsNextOf lines (take index ways) list
    → IsNextOf lines (take (index + 1) ways) new
level_step lines ways list new index way below at ascending step next =
    subst (λ front. IsNextOf lines front new) (sym (take_more ways index way below
    ∙ ap (λ w. take index ways ++ w ∷ []) (sym at)))
    (step (take index ways)
    (subst (λ w. AllPrecede (take index ways) w) (sym at)
    (pairwise_front (λ one other. Precedes (order_of one) (order_of other)) ways index way below ascending))
    next)

-- if one more turn of a level leads to more ways than allowed that differ, so do orders of one length (`IsWide`)
pub wide_level : (lines : List Told) (base : Config) (count limit : ℕ) (ways same : List Way)
    → IsLevel lines base count ways → same ≡ ways
    → IsWideNext lines same limit
    → IsWide lines base limit
wide_level lines base count limit ways same level is wide =
    let now : IsWideNext lines ways limit = subst (λ w. IsWideNext lines w limit) is wide in
    record {
      count = count + 1;
      many = now.many;
      over = now.over;
      differ = now.differ;
      reached = each_reached lines base count ways now.many level.each now.each;
    }

-- the ways that are found with one more turn of a level, if any are returned, are the next level
pub level_found : (lines : List Told) (base : Config) (count : ℕ) (ways same : List Way)
    (found : Option (Vec Way Global)) (next : Vec Way Global)
    → IsLevel lines base count ways → same ≡ ways → found ≡ Some next
    → IfSome found (λ n. IsNextOf lines same n.items) → IsLevel lines base (count + 1) next.items
level_found lines base count ways same found next level is some by =
    level_next lines base count ways next.items level
    (subst (λ w. IsNextOf lines w next.items) is (subst (λ o. IfSome o (λ n. IsNextOf lines same n.items)) some by))

-- the ways that a search opens with are the level of no turns
pub level_opening : (lines : List Told) (state : State) (ways : List Way) → IsOpening lines state ways
    → IsLevel lines (opening lines state) 0 ways
level_opening lines state ways is = level_first lines (opening lines state) ways is.0 is.1 is.2 is.3
