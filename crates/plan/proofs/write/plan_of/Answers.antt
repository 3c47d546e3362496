use Rattle.std.proofs.Common.{◌≡◌, ◌+◌, length, Some, None, sym, ap, subst, arith}
use Rattle.routes.specs.Routes.{stream_of}
use Rattle.grid.specs.Views.{streams_in}
use Rattle.plan.specs.Loads.{sizes_of}
use Rattle.plan.proofs.SmallStreams.{AllSmall, lets_in_small, open_small}
use Rattle.plan.proofs.Lengths.{SmallHead, small_head, head_short, plan_short}
use Rattle.plan.proofs.Listing.{entry_says}
use Rattle.plan.proofs.Writing.{SoFar, none_written, open_written, closed_written, room_for, hops_fit}
use Rattle.plan.proofs.write.plan_of.Given as given
use Rattle.plan.proofs.write.plan_of.Goals as goal
use Rattle.plan.proofs.write.plan_of.Goals.{In-Some}

pub put_head-requires : goal.put_head-requires
put_head-requires g c =
    let head = small_head c.args.head.now c.args.count (sizes_of c.args.grid.now.tables) c.requires.judged in
    omega (arith, head_short c.args.head.now c.args.count _ head, ap length c.new-plan.ensures)

pub loop-number-init : goal.loop-number-init
loop-number-init g c = none_written _ _ _ _ _ c.new-plan.ensures c.requires.count c.put_head.ensures

pub loop-number-preserved-in_default : goal.loop-number-preserved-in_default
loop-number-preserved-in_default g c =
    let table = c.args.grid.now.tables in
    closed_written _ _ _ _ c.loop-number.invariant (omega arith)
    (entry_says table.streams _ _ _ _ None c.streams-streams.ensures c.from.ensures (omega (arith, table.all)) c.in_default.is)

-- the numbers of all open streams are small
small : (g : given.Over) (c : In-Some g) → AllSmall (streams_in c.args.grid.now.tables)
small g c =
    let grid = c.args.grid.now in
    let size = grid.tables.lanes.size in
    let capacity = grid.tables.capacity in
    open_small (lets_in_small (g.met.W.Ways.ways_law grid.layout).sized (g.met.P.Policy.on_ways grid.layout) size.wide.1
    (g.met.P.Policy.safe grid.layout size.lanes size.depth capacity 0) (g.met.P.Policy.reopens grid.layout size.lanes capacity)) grid.reached

-- the stream at hand
at_hand : (g : given.Over) (c : In-Some g) → streams_in c.args.grid.now.tables c.loop-number.number ≡ Some (stream_of c.in-Some.stream)
at_hand g c =
    let table = c.args.grid.now.tables in
    entry_says table.streams _ _ _ _ (Some c.in-Some.stream) c.streams-streams.ensures c.from.ensures (omega (arith, table.all)) c.in-Some.is

pub put_record-requires-clause-room : goal.put_record-requires-clause-room
put_record-requires-clause-room g c =
    let here = (goal.at.put_record-requires-clause-room g c).In-Some in
    let streams = streams_in c.args.grid.now.tables in
    let sizes = sizes_of c.args.grid.now.tables in
    let head = subst (λ count. SmallHead c.args.head.now count sizes) c.requires.count (small_head c.args.head.now c.args.count sizes c.requires.judged) in
    omega (arith, room_for _ _ _ _ c.loop-number.invariant _ (omega arith) (at_hand g here), plan_short c.args.head.now streams sizes head (small g here))

pub put_record-requires-clause-small : goal.put_record-requires-clause-small
put_record-requires-clause-small g c =
    let here = (goal.at.put_record-requires-clause-small g c).In-Some in
    hops_fit _ (small g here c.loop-number.number (stream_of c.in-Some.stream) (at_hand g here)).on_grid

pub loop-number-preserved : goal.loop-number-preserved
loop-number-preserved g c =
    let here = (goal.at.loop-number-preserved g c).In-Some in
    subst (SoFar c.args.head.now (streams_in c.args.grid.now.tables) (c.loop-number.number + 1)) (sym c.put_record.ensures)
    (open_written _ _ _ _ c.loop-number.invariant (stream_of c.in-Some.stream) (omega arith) (at_hand g here))
