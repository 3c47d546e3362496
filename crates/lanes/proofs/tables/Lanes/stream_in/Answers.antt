use Rattle.lanes.proofs.Items.{item_is}
use Rattle.lanes.proofs.tables.Lanes.stream_in.Goals as goal

pub returns : goal.returns
returns c =
    item_is c.args.self.now c.args.k c.requires.lane c.index.result.now c.index.ensures c.args.behind c.index-2.result.now c.requires.some c.index-2.ensures
