-- What calls made in turn leave.
use Rattle.std.proofs.Common.{◌≡◌, List, length, refl, ap, ◌∙◌}
use Rattle.model.specs.Kinds.{Kind, on_kind}
use Rattle.model.specs.Grid.{Setting, Grid}
use Rattle.model.specs.Calls.{Call, Answer, outcome}
use Rattle.model.specs.Runs.{History, after_from, answer_from, then_calls}
use Rattle.model.proofs.SlotCounts.{length-slots_after}
use Rattle.grid.specs.declared.tables.Tables.{Tables}
use Rattle.grid.specs.Views.{view, setting}
use Rattle.grid.specs.Makes.{Makes}
use Rattle.grid.specs.InTurn.{InTurn, no_call, one_more}

-- a call keeps the count of slots, and the setting
pub makes_slots : {T : Type 0} {k : Kind} {t t' : Tables} {xs xs' : List T} {c : Call T} {a : Answer T} → Makes k t xs c a t' xs' → length xs' ≡ length xs
makes_slots {k = k} {t = t} {xs = xs} {c = c} makes = ap length makes.slots ∙ length-slots_after (setting k t (length xs)) (view t xs) c xs

pub makes_setting : {T : Type 0} {k : Kind} {t t' : Tables} {xs xs' : List T} {c : Call T} {a : Answer T} → Makes k t xs c a t' xs'
    → setting k t' (length xs') ≡ setting k t (length xs)
makes_setting {k = k} {t' = t'} {xs' = xs'} makes =
    ap (λ s. on_kind k s.lanes s.depth t'.capacity (length xs')) makes.size ∙ rw (makes.capacity, makes_slots makes) refl

-- calls in turn, and then more
pub turn_then : {T : Type 0} {k : Kind} {t between : Tables} {xs slots : List T} {past more : History T} {t' : Tables} {xs' : List T}
    → InTurn k t xs past between slots → InTurn k between slots more t' xs' → InTurn k t xs (then_calls past more) t' xs'
turn_then first no_call = first
turn_then first (one_more a so_far makes) = one_more a (turn_then first so_far) makes

module _ {T : Type 0} (k : Kind) (t : Tables) (xs : List T) where
  abbrev S : Setting
  S = setting k t (length xs)

  abbrev g : Grid T
  g = view t xs

  -- the setting stays, the size and the capacity, and the count of slots
  pub turn_setting : {past : History T} {t' : Tables} {xs' : List T} → InTurn k t xs past t' xs' → setting k t' (length xs') ≡ S
  turn_setting no_call = refl
  turn_setting (one_more a so_far makes) = makes_setting makes ∙ turn_setting so_far

  pub turn_size : {past : History T} {t' : Tables} {xs' : List T} → InTurn k t xs past t' xs' → t'.lanes.size ≡ t.lanes.size
  turn_size no_call = refl
  turn_size (one_more a so_far makes) = makes.size ∙ turn_size so_far

  pub turn_capacity : {past : History T} {t' : Tables} {xs' : List T} → InTurn k t xs past t' xs' → t'.capacity ≡ t.capacity
  turn_capacity no_call = refl
  turn_capacity (one_more a so_far makes) = makes.capacity ∙ turn_capacity so_far

  pub turn_slots : {past : History T} {t' : Tables} {xs' : List T} → InTurn k t xs past t' xs' → length xs' ≡ length xs
  turn_slots no_call = refl
  turn_slots (one_more a so_far makes) = makes_slots makes ∙ turn_slots so_far

  -- they leave of the grid what their history does, and each is answered by it
  pub turn_grid : {past : History T} {t' : Tables} {xs' : List T} → InTurn k t xs past t' xs' → view t' xs' ≡ after_from S g past
  turn_grid no_call = refl
  turn_grid (one_more {past = past} {c = c} {between = between} {slots = slots} a so_far makes) =
      makes.grid ∙ ap (λ s. (outcome s (view between slots) c).grid) (turn_setting so_far) ∙ ap (λ (g : Grid T). (outcome S g c).grid) (turn_grid so_far)

  pub turn_answer : {past : History T} {c : Call T} {a : Answer T} {between t' : Tables} {slots xs' : List T} → InTurn k t xs past between slots → Makes k between slots c a t' xs'
      → a ≡ answer_from S g past c
  turn_answer {c = c} {between = between} {slots = slots} so_far makes =
      makes.answer ∙ ap (λ s. (outcome s (view between slots) c).answer) (turn_setting so_far) ∙ ap (λ (g : Grid T). (outcome S g c).answer) (turn_grid so_far)
