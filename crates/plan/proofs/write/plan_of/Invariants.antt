use Rattle.grid.specs.Views.{streams_in}
use Rattle.plan.proofs.Writing.{SoFar}
use Rattle.plan.proofs.write.plan_of.Given as goal

abbrev pub invariant-loop-number : goal.invariant-loop-number
invariant-loop-number g l = SoFar l.head (streams_in l.grid.tables) l.number l.plan.items
