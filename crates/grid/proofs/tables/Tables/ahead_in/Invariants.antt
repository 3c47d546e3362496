use Rattle.std.proofs.Common.{◌≡◌, ◌*◌, ◌≤◌, take}
use Rattle.model.specs.Sums.{queue_sum, ahead}
use Rattle.grid.specs.Views.{streams_in, outline}
use Rattle.grid.proofs.tables.Tables.ahead_in.Given as goal

-- the sum over the items passed
abbrev pub invariant-loop-behind : goal.invariant-loop-behind
invariant-loop-behind l =
    (l.ahead ≡ queue_sum (ahead (streams_in l.self) l.hop.link) (take l.behind ((outline l.self).contents l.hop.link l.hop.lane))) × (l.ahead ≤ 24 * l.behind)
