use Rattle.std.proofs.Common.{◌≡◌, map}
use Rattle.rehearsal.specs.Rehearsals.{Takes}
use Rattle.rehearsal.proofs.rehearse.Rehearsal.count.Given as goal

-- the strips so far are taken
abbrev pub invariant-loop-stream : goal.invariant-loop-stream
invariant-loop-stream l = record {
  takes : Takes (map (λ i. (i.0.now, i.1.now)) l.yielded) l.initial.self.tallies l.self.tallies;
  steps : l.self.steps ≡ l.initial.self.steps;
  items : l.self.items ≡ l.initial.self.items;
  ahead : l.self.ahead ≡ l.initial.self.ahead;
}
