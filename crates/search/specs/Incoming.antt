-- The links that lead to each tile, as a chain from the last to the first.
use Rattle.std.specs.Prelude.{◌≡◌, ℕ, zero, suc, ◌<◌, Bool, cond, Some, None, Option, ◌==◌, slice_index_or}
use Rattle.layouts.specs.Layout.{Meaning}
use Rattle.search.specs.declared.incoming.Incoming.{Incoming}

-- the greatest number below n that passes a test
abbrev pub last_below : ℕ → (ℕ → Bool) → Option ℕ
last_below zero test = None
last_below (suc n) test = cond (test n) (Some n) (last_below n test)

abbrev pub ends_at : Meaning → ℕ → ℕ → Bool
ends_at m tile link = m.end link == tile

-- Of the links below n: the last that leads to each tile, and for each link the one before it that leads to the same tile.
pub record Chains (m : Meaning) (n : ℕ) (links : Incoming) : Type 0 where
  pub last : (tile : ℕ) → tile < 64 → slice_index_or links.last tile None ≡ last_below n (ends_at m tile)
  pub previous : (link : ℕ) → link < n → slice_index_or links.previous link None ≡ last_below link (ends_at m (m.end link))
