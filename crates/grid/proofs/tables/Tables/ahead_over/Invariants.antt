use Rattle.std.proofs.Common.{◌≡◌, ◌*◌, ◌≤◌}
use Rattle.routes.specs.Loads.{sum_below}
use Rattle.grid.specs.HopsAhead.{lane_ahead}
use Rattle.grid.proofs.tables.Tables.ahead_over.Given as goal

-- the sum over the lanes passed
abbrev pub invariant-loop-lane : goal.invariant-loop-lane
invariant-loop-lane l = (l.ahead ≡ sum_below l.lane (lane_ahead l.self l.link)) × (l.ahead ≤ 24 * 8 * l.lane)
