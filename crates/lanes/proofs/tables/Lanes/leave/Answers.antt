use Rattle.std.proofs.Common.{refl}
use Rattle.lanes.proofs.Queues.{left_queue, left_place, left_others}
use Rattle.lanes.proofs.tables.Lanes.leave.Goals as goal

pub returns : goal.returns
returns g c =
    let lane = c.requires.lane in
    let is = c.index-ring.ensures in
    record {
      queue = left_queue lane is c.requires.some c.first-front.result c.first-front.ensures;
      place = left_place lane is c.requires.some;
      others = left_others lane is c.requires.some;
      size = refl;
    }
