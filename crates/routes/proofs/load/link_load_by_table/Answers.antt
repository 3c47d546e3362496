use Rattle.std.proofs.Common.{arith}
use Rattle.std.proofs.lemmas.List.{length-take}
use Rattle.routes.proofs.Loads.{load_there}
use Rattle.routes.proofs.load.link_load_by_table.Goals as goal

pub returns : goal.returns
returns c =
    load_there c.args.streams.now c.args.link c.loop-entry.entry-index _ (omega (arith, length-take c.min.result c.args.streams.now)) c.loop-entry.invariant.0
