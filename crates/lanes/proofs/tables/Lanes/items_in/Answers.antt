use Rattle.std.proofs.Common.{arith}
use Rattle.std.proofs.lemmas.Bool.Decides.{nat_tests}
use Rattle.std.proofs.lemmas.List.{take_all}
use Rattle.lanes.specs.Queues.{outline_at}
use Rattle.lanes.proofs.Items.{count_is, count_more}
use Rattle.lanes.proofs.tables.Lanes.items_in.Goals as goal

pub loop-behind-preserved : goal.loop-behind-preserved
loop-behind-preserved c =
    let more = count_more c.args.self.now c.args.k c.args.stream c.loop-behind.behind c.stream_in.result c.stream_in.ensures in
    grind (arith, nat_tests)

pub returns-clause-value : goal.returns-clause-value
returns-clause-value c =
    let count = count_is c.args.self.now c.args.k c.requires c.index.result.now c.index.ensures in
    rw (take_all c.loop-behind.behind (outline_at c.args.self.now c.args.k) (omega (arith, count, c.loop-behind-test.false))) at c.loop-behind.invariant.0
