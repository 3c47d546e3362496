use Rattle.std.proofs.Common.{◌≡◌, ◌*◌, ◌≤◌, length}
use Rattle.routes.specs.Loads.{sum_below}
use Rattle.lanes.specs.Queues.{outline_at}
use Rattle.lanes.proofs.tables.Lanes.items.Given as goal

-- the items of the lanes passed
abbrev pub invariant-loop-ring : goal.invariant-loop-ring
invariant-loop-ring l = (l.items ≡ sum_below l.ring-index (λ k. length (outline_at l.self k))) × (l.items ≤ 8 * l.ring-index)
