use Rattle.std.proofs.Common.{◌≡◌, ◌-◌, ◌≤◌, length}
use Rattle.codec.specs.Sequences.{behind}
use Rattle.codec.proofs.record.skip_numbers.Given as goal

-- the numbers that are left are behind those read so far
abbrev pub invariant-loop : goal.invariant-loop
invariant-loop l = (behind l.plan l.place l.count ≡ behind l.plan l.next (l.count - l.counter)) × (l.place ≤ l.next) × (l.next ≤ length l.plan)
