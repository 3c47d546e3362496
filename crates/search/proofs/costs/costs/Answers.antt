use Rattle.std.proofs.Common.{refl}
use Rattle.search.proofs.CostTables.{filled_none}
use Rattle.search.proofs.costs.costs.Goals as goal

pub loop-link-init : goal.loop-link-init
loop-link-init g c = (refl, filled_none _)
