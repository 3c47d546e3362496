use Rattle.std.proofs.Common.{◌≡◌, ◌+◌, ◌*◌, ◌≤◌, ◌<◌, length, add-one, refl, ap, sym, ◌∙◌, arith}
use Rattle.lanes.specs.Sizes.{lane_count, slot_count}
use Rattle.grid.specs.Sweeps.{workspace, setting_in, items_in}
use Rattle.grid.specs.Drains.{entries_in}
use Rattle.grid.proofs.Most.{grid_items_most}
use Rattle.grid.proofs.Draining.{begun, declines, entries_told, so_far_none, so_far_more, room_left, items_shown_now, drained}
use Rattle.grid.proofs.grid.Grid.drain.Goals as goal

pub overflow_add-entries : goal.overflow_add-entries
overflow_add-entries g c =
    let grid = c.args.self.now in
    let lanes = c.lane_count.ensures in
    omega (arith, c.items.ensures, grid_items_most grid.tables (g.P.Policy.kind grid.layout) grid.fits 0, lanes.value, lanes.bound, ap lane_count c.size-size.ensures)

pub returns-then-slots-clause-drains : goal.returns-then-slots-clause-drains
returns-then-slots-clause-drains g c =
    let grid = c.args.self.now in
    let w = workspace grid c.args.slots.now c.args.streams.now c.args.items.now in
    let size = c.size-size.ensures in
    let slots : c.slots.result ≡ slot_count grid.tables.lanes.size = c.slots.ensures ∙ ap slot_count size in
    let lanes : c.lane_count.result ≡ (setting_in w).links * (setting_in w).lanes =
    c.lane_count.ensures.value ∙ ap lane_count size ∙ ap (λ links. links * grid.tables.lanes.size.lanes) (sym grid.fits) in
    record {
      cause =
          declines w grid.fits c.slots.result (c.items.result + c.lane_count.result) slots
          (λ lends. omega (arith, entries_told w grid.fits (omega (arith, slots, lends)), c.items.ensures, lanes)) c.then-slots.either;
      told = refl;
      unchanged = refl;
    }

pub loop-items-init : goal.loop-items-init
loop-items-init g c =
    let grid = c.args.self.now in
    let t = grid.tables in
    let w = workspace grid c.args.slots.now c.args.streams.now c.args.items.now in
    let size = c.size-size.ensures in
    let lends : slot_count t.lanes.size ≤ length w.slots = omega (arith, c.slots.ensures, c.if-slots.false, ap slot_count size) in
    let lanes : c.lane_count.result ≡ (setting_in w).links * (setting_in w).lanes =
    c.lane_count.ensures.value ∙ ap lane_count size ∙ ap (λ links. links * t.lanes.size.lanes) (sym grid.fits) in
    let entries : entries_in w ≡ c.items.result + c.lane_count.result = omega (arith, entries_told w grid.fits lends, c.items.ensures, lanes) in
    record {
      ways = refl;
      swept = so_far_none w
          (begun w grid.fits lends (g.met.P.Policy.safe grid.layout t.lanes.size.lanes t.lanes.size.depth t.capacity (length w.slots)) grid.reached grid.standing
          (omega (arith, c.lane_count.ensures.value, c.lane_count.ensures.bound, ap lane_count size))
          (omega (arith, entries, c.if-streams-entries.false)) (omega (arith, entries, c.if-items-entries.false)));
    }

pub sweep_behind-swept-requires : goal.sweep_behind-swept-requires
sweep_behind-swept-requires g c = room_left c.loop-items.invariant.swept c.loop-items.auto.streams c.loop-items.auto.items

pub overflow_add-told : goal.overflow_add-told
overflow_add-told g c =
    let so_far = c.loop-items.invariant.swept in
    omega (arith, so_far.begun.few, so_far.steps, so_far.sweeps)

pub overflow_add-told-in-loop-items : goal.overflow_add-told-in-loop-items
overflow_add-told-in-loop-items g c =
    let so_far = c.loop-items.invariant.swept in
    omega (arith, so_far.begun.few, so_far.steps, c.sweep_behind-swept.ensures.swept.swept.hops)

pub loop-items-smaller : goal.loop-items-smaller
loop-items-smaller g c =
    let now = workspace c.loop-items.self c.loop-items.slots c.loop-items.streams c.loop-items.items in
    let some : 0 < items_in now = omega (arith, items_shown_now c.loop-items.invariant.swept c.loop-items.self.fits, c.items-in-loop-items.ensures, c.loop-items-test.true) in
    let swept = c.sweep_behind-swept.ensures.swept.swept in
    omega (arith, swept.progress some, swept.hops)

pub loop-items-preserved : goal.loop-items-preserved
loop-items-preserved g c =
    let now = workspace c.loop-items.self c.loop-items.slots c.loop-items.streams c.loop-items.items in
    let so_far = c.loop-items.invariant in
    let some : 0 < items_in now = omega (arith, items_shown_now so_far.swept c.loop-items.self.fits, c.items-in-loop-items.ensures, c.loop-items-test.true) in
    record {
      ways = c.sweep_behind-swept.ensures.ways ∙ so_far.ways;
      swept = rw (add-one c.loop-items.told.sweeps) (so_far_more so_far.swept c.sweep_behind-swept.ensures.swept some);
    }

pub returns-clause-drains : goal.returns-clause-drains
returns-clause-drains g c =
    let so_far = c.loop-items.invariant.swept in
    drained so_far (omega (arith, items_shown_now so_far c.loop-items.self.fits, c.items-in-loop-items.ensures, c.loop-items-test.false))
