use Rattle.lanes.proofs.Handled.{popped}
use Rattle.lanes.proofs.tables.Lanes.pop.Goals as goal

pub returns : goal.returns
returns g c = popped c.args.self.now c.args.slots.now c.args.hop c.in_ok-k.k c.in_ok-k.ensures c.leave.result c.leave.new.self c.leave.ensures
