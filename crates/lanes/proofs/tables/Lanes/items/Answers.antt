use Rattle.std.proofs.Common.{arith}
use Rattle.lanes.proofs.LaneSums.{items_in_all}
use Rattle.lanes.proofs.tables.Lanes.items.Goals as goal

pub returns : goal.returns
returns c = items_in_all c.args.self.now c.loop-ring.ring-index c.loop-ring.items (omega (arith, c.args.self.now.rings.ok.0, c.args.self.now.wide)) c.loop-ring.invariant.0
