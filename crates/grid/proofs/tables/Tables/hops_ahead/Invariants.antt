use Rattle.std.proofs.Common.{◌≡◌, ◌*◌, ◌≤◌}
use Rattle.routes.specs.Loads.{sum_below}
use Rattle.grid.specs.HopsAhead.{link_ahead}
use Rattle.grid.proofs.tables.Tables.hops_ahead.Given as goal

-- the sum over the links passed
abbrev pub invariant-loop-link : goal.invariant-loop-link
invariant-loop-link l = (l.ahead ≡ sum_below l.link (link_ahead l.self)) × (l.ahead ≤ 24 * 8 * 4 * l.link)
