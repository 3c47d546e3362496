-- The size of a grid, and how its lanes and slots are counted.
use Rattle.std.specs.Prelude.{ℕ, ◌+◌, ◌*◌, Bool, ◌&&◌, None}
use Rattle.routes.specs.declared.hop.Hop.{Hop}
use Rattle.routes.specs.Routes.{is_on_grid, lanes_allowed, depth_allowed}
use Rattle.model.specs.Grid.{Setting}
use Rattle.lanes.specs.declared.size.Size.{Size}

-- 1 to 4 lanes, and a depth of 1 to 8
abbrev pub size_fits : ℕ → ℕ → Bool
size_fits lanes depth = lanes_allowed lanes && depth_allowed depth

-- the link and the lane of a hop are there
abbrev pub holds : Size → Hop → Bool
holds s h = is_on_grid s.links s.lanes h

-- the lane of a hop, counted over all links
abbrev pub lane_of : Size → Hop → ℕ
lane_of s h = h.link * s.lanes + h.lane

-- how many lanes there are, and how many slots they take
abbrev pub lane_count : Size → ℕ
lane_count s = s.links * s.lanes

abbrev pub slot_count : Size → ℕ
slot_count s = s.links * s.lanes * s.depth

-- the lanes of a size with so many lent slots; which streams may be opened is not their concern
abbrev pub setting_of : Size → ℕ → Setting
setting_of s slots = record { links = s.links; lanes = s.lanes; depth = s.depth; slots = slots; judge = λ _ _ _. None }
