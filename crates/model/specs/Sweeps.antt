-- Sweeps: a step on every lane once.
use Rattle.std.specs.Prelude.{◌≡◌, ℕ, zero, suc, ◌≤◌, ◌↔◌, List, map}
use Rattle.std.specs.List.{flat_map, range_with_len}
use Rattle.model.specs.Grid.{Setting, Grid}
use Rattle.model.specs.Sums.{item_count, hops_ahead}
use Rattle.model.specs.Runs.{History, start, then_steps, then_calls}

-- the lanes of a link, and those of all links: links rising, and lanes rising within a link
abbrev pub lanes_of : ℕ → ℕ → List (ℕ × ℕ)
lanes_of lanes link = map (λ lane. (link, lane)) (range_with_len 0 lanes)

abbrev pub all_lanes : ℕ → ℕ → List (ℕ × ℕ)
all_lanes links lanes = flat_map (lanes_of lanes) (range_with_len 0 links)

-- the steps of a sweep, and of several sweeps one after another
abbrev pub sweep_of : {T : Type 0} → Setting → History T
sweep_of S = then_steps start (all_lanes S.links S.lanes)

abbrev pub sweeps_of : {T : Type 0} → Setting → ℕ → History T
sweeps_of S zero = start
sweeps_of S (suc count) = then_calls (sweeps_of S count) (sweep_of S)

-- What sweeps called one after another come to, by how many they were and how many of their steps went: no more steps go than there were
-- hops ahead, and all of these have gone exactly when no item is left; and none is left after as many sweeps as there were hops ahead.
pub record KeepsBound {T : Type 0} (S : Setting) (before : Grid T) (sweeps gone : ℕ) (after : Grid T) : Type 0 where
  pub at_most : gone ≤ hops_ahead S before
  pub exactly : (gone ≡ hops_ahead S before) ↔ (item_count S after ≡ 0)
  pub in_time : hops_ahead S before ≤ sweeps → item_count S after ≡ 0
