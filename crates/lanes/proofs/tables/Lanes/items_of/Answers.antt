use Rattle.std.proofs.Common.{arith}
use Rattle.lanes.proofs.LaneSums.{items_of_stream}
use Rattle.lanes.proofs.tables.Lanes.items_of.Goals as goal

pub returns : goal.returns
returns c = items_of_stream c.args.self.now c.args.stream c.loop-k.k c.loop-k.items (omega arith) c.loop-k.invariant.0
