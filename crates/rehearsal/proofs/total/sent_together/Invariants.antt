use Rattle.std.proofs.Common.{◌≡◌, ◌*◌, ◌≤◌, take}
use Rattle.std.specs.List.{sum_by}
use Rattle.rehearsal.specs.Totals.{strips_sent}
use Rattle.rehearsal.proofs.total.sent_together.Given as goal

-- the strips of the streams passed
abbrev pub invariant-loop-entry : goal.invariant-loop-entry
invariant-loop-entry l = (l.sent ≡ sum_by strips_sent (take l.entry-index l.tallies)) × (l.sent ≤ 65535 * l.entry-index)
