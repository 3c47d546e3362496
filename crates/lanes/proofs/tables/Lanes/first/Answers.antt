use Rattle.lanes.proofs.Queues.{front_is}
use Rattle.lanes.proofs.tables.Lanes.first.Goals as goal

pub returns : goal.returns
returns g c =
    front_is c.requires.lane c.index.ensures c.requires.some c.index-2.result.now c.index-slots-slot.result c.index-2.ensures c.index-slots-slot.is
