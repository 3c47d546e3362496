use Rattle.std.proofs.Common.{◌≡◌, true}
use Rattle.lanes.specs.Sizes.{holds}
use Rattle.lanes.proofs.Items.{count_is}
use Rattle.lanes.proofs.tables.Lanes.count.Goals as goal

pub returns : goal.returns
returns c =
    let on : holds c.args.self.now.size c.args.hop ≡ true = cc in
    let is = count_is c.args.self.now c.lane.result c.lane.ensures.within c.index.result.now c.index.ensures in
    rw on cc
