use Rattle.std.proofs.Common.{◌≡◌}
use Rattle.grid.specs.Grids.{ways_of}
use Rattle.grid.specs.Sweeps.{workspace}
use Rattle.rehearsal.proofs.Turning.{SoFar}
use Rattle.rehearsal.proofs.rehearse.rehearse.Given as goal

-- something went in each turn so far
abbrev pub invariant-loop-turn : goal.invariant-loop-turn
invariant-loop-turn g l = record {
  ways : ways_of l.grid ≡ ways_of l.fn.grid;
  so_far : SoFar l.strips (workspace l.fn.grid l.fn.slots l.fn.streams l.fn.items) l.turn l.rehearsal (workspace l.grid l.slots l.streams l.items);
}
