use Rattle.rehearsal.proofs.Sweeping.{pairs_out}
use Rattle.rehearsal.proofs.rehearse.Rehearsal.sweep.Goals as goal

pub returns-clause-swept : goal.returns-clause-swept
returns-clause-swept g c = rw c.unwrap-told.ensures at c.sweep.ensures.sweeps

pub returns-clause-counted : goal.returns-clause-counted
returns-clause-counted g c = rw (pairs_out (rw c.unwrap-told.ensures at c.sweep.ensures.sweeps)) at c.count.ensures
