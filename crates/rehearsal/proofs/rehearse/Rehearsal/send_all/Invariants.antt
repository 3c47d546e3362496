use Rattle.std.proofs.Common.{◌≡◌, ℕ, ◌<◌, false}
use Rattle.grid.specs.Grids.{ways_of}
use Rattle.rehearsal.specs.Rehearsals.{moment, SendsNone, GoesOn}
use Rattle.rehearsal.proofs.rehearse.Rehearsal.send_all.Given as goal

-- if no strip was let in so far, these streams send none
abbrev pub invariant-loop-stream : goal.invariant-loop-stream
invariant-loop-stream g l = record {
  ways : ways_of l.grid ≡ ways_of l.fn.grid;
  on : GoesOn l.strips l.went (moment l.fn.self l.fn.grid l.fn.slots) (moment l.self l.grid l.slots);
  declined : l.went ≡ false → (n : ℕ) → n < l.stream → SendsNone l.strips (moment l.self l.grid l.slots) n;
}

-- nor does this one, once it has tried
abbrev pub invariant-loop : goal.invariant-loop
invariant-loop g l = record {
  ways : ways_of l.grid ≡ ways_of l.fn.grid;
  on : GoesOn l.strips l.went (moment l.fn.self l.fn.grid l.fn.slots) (moment l.self l.grid l.slots);
  declined : l.went ≡ false → (n : ℕ) → n < l.stream → SendsNone l.strips (moment l.self l.grid l.slots) n;
  here : l.went ≡ false → 0 < l.counter → SendsNone l.strips (moment l.self l.grid l.slots) l.stream;
}
