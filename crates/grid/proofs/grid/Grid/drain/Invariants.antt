use Rattle.std.proofs.Common.{◌≡◌}
use Rattle.grid.specs.Grids.{ways_of}
use Rattle.grid.specs.Sweeps.{workspace, ahead_in}
use Rattle.grid.proofs.Draining.{SoFar}
use Rattle.grid.proofs.grid.Grid.drain.Given as goal

-- the sweeps so far
abbrev pub invariant-loop-items : goal.invariant-loop-items
invariant-loop-items g l = record {
  ways : ways_of l.self ≡ ways_of l.fn.self;
  swept : SoFar (workspace l.fn.self l.fn.slots l.fn.streams l.fn.items) l.told (workspace l.self l.slots l.streams l.items);
}

-- each takes from the hops ahead
abbrev pub decreases-loop-items : goal.decreases-loop-items
decreases-loop-items g l = ahead_in (workspace l.self l.slots l.streams l.items)
