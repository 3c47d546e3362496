-- How long the two tables are into which what comes out is written.
use Rattle.std.specs.Prelude.{ℕ, ◌+◌}
use Rattle.lanes.specs.declared.size.Size.{Size}
use Rattle.lanes.specs.Sizes.{lane_count, slot_count}

-- an entry for each slot, since no more items are on the grid, and one for each lane
abbrev pub entry_count : Size → ℕ
entry_count s = slot_count s + lane_count s
