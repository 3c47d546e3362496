use Rattle.rehearsal.proofs.Starting.{Begun}
use Rattle.rehearsal.proofs.rehearse.tallies.Given as goal

-- the numbers so far have their tallies
abbrev pub invariant-loop-stream : goal.invariant-loop-stream
invariant-loop-stream l = Begun l.streams l.stream l.tallies
