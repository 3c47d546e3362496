use Rattle.std.proofs.Common.{◌≡◌, ◌≤◌}
use Rattle.lanes.proofs.Items.{count_to}
use Rattle.lanes.proofs.tables.Lanes.items_in.Given as goal

-- the stream's items among those passed
abbrev pub invariant-loop-behind : goal.invariant-loop-behind
invariant-loop-behind l = (l.items ≡ count_to l.self l.k l.stream l.behind) × (l.items ≤ l.behind)
