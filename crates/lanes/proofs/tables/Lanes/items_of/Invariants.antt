use Rattle.std.proofs.Common.{◌≡◌, ◌*◌, ◌≤◌, ◌==◌}
use Rattle.std.specs.List.{count_by}
use Rattle.routes.specs.Loads.{sum_below}
use Rattle.lanes.specs.Queues.{outline_at}
use Rattle.lanes.proofs.tables.Lanes.items_of.Given as goal

-- the stream's items of the lanes passed
abbrev pub invariant-loop-k : goal.invariant-loop-k
invariant-loop-k l = (l.items ≡ sum_below l.k (λ k. count_by (λ i. i.0 == l.stream) (outline_at l.self k))) × (l.items ≤ 8 * l.k)
