-- Calls made in turn.
use Rattle.std.proofs.Common.{◌≡◌, ℕ, List, length, Option, sym, ap, ◌∙◌, subst, refl}
use Rattle.std.proofs.Props.{props}
use Rattle.routes.specs.declared.stream.Stream.{Stream}
use Rattle.model.specs.Grid.{Setting, Grid, blank}
use Rattle.model.specs.Kinds.{Kind}
use Rattle.model.specs.Runs.{History, after, after_from}
use Rattle.model.specs.Slots.{slots_after, slots_left}
use Rattle.lanes.specs.declared.tables.Lanes.{Lanes}
use Rattle.grid.specs.declared.tables.Tables.{Tables}
use Rattle.grid.specs.Placed.{Placed}
use Rattle.grid.specs.Views.{view, setting}
use Rattle.grid.specs.Makes.{Same}
use Rattle.grid.specs.InTurn.{InTurn, no_call, one_more}
use Rattle.grid.proofs.InTurn.{turn_setting, turn_size, turn_capacity, turn_grid}
use Rattle.plan.specs.Loads.{sizes_of}

-- ---- tables that show the same

-- tables of these parts
abbrev tables_of : (lanes : Lanes) (streams : List (Option Stream)) (capacity : ℕ) → length streams ≡ 64 → Placed lanes.size streams → Tables
tables_of lanes streams capacity all placed = record { lanes = lanes; streams = streams; capacity = capacity; all = all; placed = placed }

all_prop : (streams : List (Option Stream)) → IsProp (length streams ≡ 64)
all_prop streams = hlevel props

placed_prop : (lanes : Lanes) (streams : List (Option Stream)) → IsProp (Placed lanes.size streams)
placed_prop lanes streams = hlevel props

-- all tables of these parts are these
abbrev AllAre : Tables → Lanes → List (Option Stream) → ℕ → Type 0
AllAre t lanes streams capacity =
    (all : length streams ≡ 64) (placed : Placed lanes.size streams) → tables_of lanes streams capacity all placed ≡ t

own_parts : (t : Tables) → AllAre t t.lanes t.streams t.capacity
own_parts t all placed =
    ap (λ all. tables_of t.lanes t.streams t.capacity all placed) (all_prop t.streams all t.all)
    ∙ ap (λ placed. tables_of t.lanes t.streams t.capacity t.all placed) (placed_prop t.lanes t.streams placed t.placed)

same_tables : (t t' : Tables) → Same t t' → t' ≡ t
same_tables t t' same =
    let by_lanes = subst (λ lanes. AllAre t lanes t.streams t.capacity) (sym same.lanes) (own_parts t) in
    let by_streams = subst (λ streams. AllAre t t'.lanes streams t.capacity) (sym same.streams) by_lanes in
    subst (λ capacity. AllAre t t'.lanes t'.streams capacity) (sym same.capacity) by_streams t'.all t'.placed

-- ---- what calls in turn lead to

module _ {T : Type 0} (k : Kind) where
  -- they lead to all tables that show the same
  pub turn_same : {t : Tables} {xs : List T} {past : History T} {between : Tables} {xs' : List T} (t' : Tables)
      → InTurn k t xs past between xs' → Same between t' → InTurn k t xs past t' xs'
  turn_same {t = t} {xs = xs} {past = past} {between = between} {xs' = xs'} t' turn same =
      subst (λ t'. InTurn k t xs past t' xs') (sym (same_tables between t' same)) turn

  -- the sizes stay
  pub turn_sizes : {t : Tables} {xs : List T} {past : History T} {t' : Tables} {xs' : List T} → InTurn k t xs past t' xs' → sizes_of t' ≡ sizes_of t
  turn_sizes {t = t} {xs = xs} turn = rw (turn_size k t xs turn, turn_capacity k t xs turn) refl

-- On a blank grid they leave the grid and the slots that their history leaves.
module _ {T : Type 0} (k : Kind) (t : Tables) (xs : List T) (is_blank : view t xs ≡ blank) where
  abbrev S : Setting
  S = setting k t (length xs)

  pub turn_after : {past : History T} {t' : Tables} {xs' : List T} → InTurn k t xs past t' xs' → view t' xs' ≡ after S past
  turn_after {past = past} turn = turn_grid k t xs turn ∙ ap (λ (g : Grid T). after_from S g past) is_blank

  pub turn_left : {past : History T} {t' : Tables} {xs' : List T} → InTurn k t xs past t' xs' → xs' ≡ slots_left S past xs
  turn_left no_call = refl
  turn_left (one_more {past = past} {c = c} {between = between} {slots = slots} a so_far makes) =
      makes.slots
      ∙ ap (λ s. slots_after s (view between slots) c slots) (turn_setting k t xs so_far)
      ∙ ap (λ (g : Grid T). slots_after S g c slots) (turn_after so_far)
      ∙ ap (slots_after S (after S past) c) (turn_left so_far)
