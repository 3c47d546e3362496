use Rattle.std.proofs.Common.{◌≡◌, ℕ, ◌≤◌, length, None, Ok, sym, ap, ◌∙◌, subst, arith}
use Rattle.std.proofs.Math.ListN.{get_or-eq_default}
use Rattle.std.specs.Option.{option_map}
use Rattle.routes.specs.Routes.{stream_of, streams_of}
use Rattle.routes.specs.Loads.{stream_count}
use Rattle.grid.specs.Views.{streams_in}
use Rattle.codec.specs.Heads.{judged}
use Rattle.plan.specs.Loads.{sizes_of}
use Rattle.plan.specs.Plans.{open_streams}
use Rattle.plan.specs.RoundTrips.{LoadsAs}
use Rattle.plan.proofs.SmallStreams.{lets_in_small}
use Rattle.plan.proofs.Reloading.{reloadable, loads_as}
use Rattle.plan.proofs.Writing.{in_buffer}
use Rattle.plan.proofs.write.write.Goals as goal

pub returns-clause-loads : goal.returns-clause-loads
returns-clause-loads g c =
    let grid = c.args.grid.now in
    let streams = streams_in grid.tables in
    let sizes = sizes_of grid.tables in
    let sizes_are : c.sizes_of.result ≡ sizes = c.sizes_of.ensures.value in
    let bound : sizes.capacity ≤ 65535 = subst (λ s. s.capacity ≤ 65535) sizes_are c.sizes_of.ensures.bound in
    let beyond : (n : ℕ) → stream_count ≤ n → streams n ≡ None = λ n far. ap (option_map stream_of) (get_or-eq_default grid.tables.streams None (omega (arith, grid.tables.all))) in
    let counted : c.open_count-count.result ≡ length (open_streams streams) = c.open_count-count.ensures.value ∙ ap (λ table. length (open_streams (streams_of table))) c.streams.ensures in
    let pass : judged c.args.head.now c.open_count-count.result c.sizes_of.result ≡ Ok tt = sym c.judge_head.ensures ∙ c.in_default.is in
    let pass_here : judged c.args.head.now (length (open_streams streams)) sizes ≡ Ok tt = rw (← counted, ← sizes_are) pass in
    let bytes = c.as_slice.ensures.value ∙ c.plan_of.ensures in
    let size = grid.tables.lanes.size in
    let reopens = g.met.P.Policy.reopens grid.layout size.lanes sizes.capacity in
    let small = lets_in_small (g.met.W.Ways.ways_law grid.layout).sized (g.met.P.Policy.on_ways grid.layout) size.wide.1
    (g.met.P.Policy.safe grid.layout size.lanes size.depth sizes.capacity 0) reopens in
    let able = reloadable (g.P.Policy.kind grid.layout) size.lanes sizes.capacity small reopens bound streams grid.reached in
    in_buffer (LoadsAs (g.P.Policy.kind grid.layout) sizes streams) _ _ _ _ _ c.put.ensures
    (subst (LoadsAs (g.P.Policy.kind grid.layout) sizes streams) (sym bytes)
    (loads_as (g.P.Policy.kind grid.layout) sizes bound streams able beyond c.args.head.now pass_here))
