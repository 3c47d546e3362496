use Rattle.std.proofs.Common.{sym}
use Rattle.grid.proofs.Starting.{starts}
use Rattle.grid.proofs.tables.Tables.first_hop.Goals as goal

pub returns : goal.returns
returns c =
    rw c.hops.ensures
    (starts c.args.self.now c.args.stream c.in_ok-stream.stream (sym c.in_ok-stream.ensures.value) c.in_ok-stream.ensures.entry)
