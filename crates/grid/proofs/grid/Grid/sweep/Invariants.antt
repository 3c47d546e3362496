use Rattle.std.proofs.Common.{◌≡◌, ◌+◌, ◌*◌, ◌≤◌}
use Rattle.model.specs.Runs.{start, then_steps}
use Rattle.model.specs.Sweeps.{lanes_of, all_lanes}
use Rattle.grid.specs.Grids.{ways_of}
use Rattle.grid.specs.Sweeps.{workspace}
use Rattle.grid.proofs.Sweeping.{Told}
use Rattle.grid.proofs.grid.Grid.sweep.Given as goal

-- the lanes of the links so far were tried
abbrev pub invariant-loop-link : goal.invariant-loop-link
invariant-loop-link g l = record {
  ways : ways_of l.self ≡ ways_of l.fn.self;
  told : Told (then_steps start (all_lanes l.link l.size.lanes)) (workspace l.fn.self l.fn.slots l.fn.streams l.fn.items) l.told
      (workspace l.self l.slots l.streams l.items);
  steps : l.told.steps ≤ l.link * l.size.lanes;
  items : l.told.items ≤ l.told.steps;
}

-- and these lanes of this link
abbrev pub invariant-loop-lane : goal.invariant-loop-lane
invariant-loop-lane g l = record {
  ways : ways_of l.self ≡ ways_of l.fn.self;
  told : Told (then_steps (then_steps start (all_lanes l.link l.size.lanes)) (lanes_of l.lane l.link))
      (workspace l.fn.self l.fn.slots l.fn.streams l.fn.items) l.told (workspace l.self l.slots l.streams l.items);
  steps : l.told.steps ≤ l.link * l.size.lanes + l.lane;
  items : l.told.items ≤ l.told.steps;
}
