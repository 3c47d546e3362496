use Rattle.std.proofs.Common.{refl}
use Rattle.lanes.proofs.Queues.{entered_queue, entered_place, entered_others, entered_slots}
use Rattle.lanes.proofs.tables.Lanes.enter.Goals as goal

pub returns : goal.returns
returns g c =
    let lane = c.requires.lane in
    let is = c.index-ring.ensures in
    let n = c.args.stream in
    let x = c.args.item in
    record {
      queue = entered_queue lane is n x c.requires.room;
      place = entered_place lane is n x c.requires.room;
      others = entered_others lane is n x c.requires.room;
      slots = entered_slots lane is n x c.requires.room;
      size = refl;
    }
