use Rattle.grid.proofs.Reaching.{reached_blank}
use Rattle.grid.proofs.Stands.{blank_stands}
use Rattle.grid.proofs.grid.Grid.blank.Goals as goal

pub invariant_of-result-clause-reached : goal.invariant_of-result-clause-reached
invariant_of-result-clause-reached g c = reached_blank _ _ c.no_stream.ensures.2

pub invariant_of-result-clause-standing : goal.invariant_of-result-clause-standing
invariant_of-result-clause-standing g c = blank_stands c.no_stream.result (rw c.no_stream.ensures.0 c.in_ok-lanes.ensures.1)
