use Rattle.std.proofs.Common.{arith}
use Rattle.grid.proofs.StreamTables.{streams_of-set}
use Rattle.grid.proofs.tables.Tables.put.Goals as goal

pub returns-clause-streams : goal.returns-clause-streams
returns-clause-streams c =
    let t = c.args.self.now in
    rw c.from.ensures (streams_of-set t.streams c.args.stream c.args.entry (omega (arith, c.requires.number, t.all)))
