use Rattle.std.proofs.Common.{◌≡◌, ◌+◌, ◌*◌, length, refl, ap, sym, subst, ◌∙◌, suc-mul, add-one, arith}
use Rattle.model.specs.Runs.{History, start, then_steps}
use Rattle.model.specs.Sweeps.{lanes_of, all_lanes, sweep_of}
use Rattle.model.proofs.AllLanes.{lane_past, link_past}
use Rattle.lanes.specs.Sizes.{lane_count, slot_count}
use Rattle.grid.specs.Sweeps.{workspace, setting_in}
use Rattle.grid.proofs.Sweeping.{Told, told_none, told_step, lanes_left, counts_few, swept}
use Rattle.grid.proofs.grid.Grid.sweep.Goals as goal

pub loop-link-init : goal.loop-link-init
loop-link-init g c = record { ways = refl; told = told_none _; steps = omega arith; items = omega arith }

-- there is room for one more
pub count-told-requires-clause-steps : goal.count-told-requires-clause-steps
count-told-requires-clause-steps g c =
    let left =
    lanes_left c.size-size.result c.loop-link.link c.loop-lane.lane (omega (arith, c.loop-link-test.true, c.links-link-end.ensures))
    (omega (arith, c.loop-lane-test.true, c.lanes-lane-end.ensures)) c.loop-lane.invariant.steps in
    omega (arith, left, c.lane_count-lanes.ensures.value, c.lane_count-lanes.ensures.bound)

pub count-told-requires-clause-streams : goal.count-told-requires-clause-streams
count-told-requires-clause-streams g c =
    let left =
    lanes_left c.size-size.result c.loop-link.link c.loop-lane.lane (omega (arith, c.loop-link-test.true, c.links-link-end.ensures))
    (omega (arith, c.loop-lane-test.true, c.lanes-lane-end.ensures)) c.loop-lane.invariant.steps in
    omega (arith, left, c.loop-lane.invariant.items, c.lane_count-lanes.ensures.value, c.loop-lane.auto.streams, c.loop-link.auto.streams, c.if-streams-lanes.false)

pub count-told-requires-clause-items : goal.count-told-requires-clause-items
count-told-requires-clause-items g c =
    let left =
    lanes_left c.size-size.result c.loop-link.link c.loop-lane.lane (omega (arith, c.loop-link-test.true, c.links-link-end.ensures))
    (omega (arith, c.loop-lane-test.true, c.lanes-lane-end.ensures)) c.loop-lane.invariant.steps in
    omega (arith, left, c.loop-lane.invariant.items, c.lane_count-lanes.ensures.value, c.loop-lane.auto.items, c.loop-link.auto.items, c.if-items-lanes.false)

pub loop-lane-preserved : goal.loop-lane-preserved
loop-lane-preserved g c =
    let so_far = c.loop-lane.invariant in
    let before = workspace c.args.self.now c.args.slots.now c.args.streams.now c.args.items.now in
    let after = workspace c.step-answer.new.self c.step-answer.new.slots c.count-told.new.streams c.count-told.new.items in
    let few = counts_few c.count-told.ensures in
    let left =
    lanes_left c.size-size.result c.loop-link.link c.loop-lane.lane (omega (arith, c.loop-link-test.true, c.links-link-end.ensures))
    (omega (arith, c.loop-lane-test.true, c.lanes-lane-end.ensures)) c.loop-lane.invariant.steps in
    record {
      ways = c.step-answer.ensures.layout ∙ so_far.ways;
      told =
          subst (λ (calls : History g.row.T.Denot). Told calls before c.count-told.result after)
          (lane_past (then_steps start (all_lanes c.loop-link.link c.size-size.result.lanes)) c.loop-lane.lane c.loop-link.link)
          (told_step so_far.told c.loop-link.link c.loop-lane.lane _
          (omega (arith, left, so_far.items, c.lane_count-lanes.ensures.value, c.if-streams-lanes.false))
          (omega (arith, left, so_far.items, c.lane_count-lanes.ensures.value, c.if-items-lanes.false))
          (ap (g.P.Policy.kind) c.step-answer.ensures.layout) c.step-answer.ensures.made c.count-told.ensures);
      steps = omega (arith, few.0, so_far.steps);
      items = few.1 so_far.items;
    }

pub loop-link-preserved : goal.loop-link-preserved
loop-link-preserved g c =
    let so_far = c.loop-lane.invariant in
    let before = workspace c.args.self.now c.args.slots.now c.args.streams.now c.args.items.now in
    let after = workspace c.loop-lane.self c.loop-lane.slots c.loop-lane.streams c.loop-lane.items in
    let lanes = c.size-size.result.lanes in
    let all : c.loop-lane.lane ≡ lanes = omega (arith, c.loop-lane-test.false, c.loop-lane.auto.lane-end, c.lanes-lane-end.ensures) in
    let more : (c.loop-link.link + 1) * lanes ≡ c.loop-link.link * lanes + lanes = ap (λ k. k * lanes) (add-one c.loop-link.link) ∙ suc-mul c.loop-link.link lanes in
    record {
      ways = so_far.ways;
      told =
          subst (λ (calls : History g.row.T.Denot). Told calls before c.loop-lane.told after)
          (ap (λ lane. then_steps (then_steps start (all_lanes c.loop-link.link lanes)) (lanes_of lane c.loop-link.link)) all ∙ link_past start lanes c.loop-link.link)
          so_far.told;
      steps = omega (arith, so_far.steps, more, all);
      items = so_far.items;
    }

pub returns-clause-sweeps : goal.returns-clause-sweeps
returns-clause-sweeps g c =
    let grid = c.args.self.now in
    let t = grid.tables in
    let before = workspace grid c.args.slots.now c.args.streams.now c.args.items.now in
    let after = workspace c.loop-link.self c.loop-link.slots c.loop-link.streams c.loop-link.items in
    let S = setting_in before in
    let size = c.size-size.ensures in
    let lanes : c.lane_count-lanes.result ≡ S.links * S.lanes =
    c.lane_count-lanes.ensures.value ∙ ap lane_count size ∙ ap (λ links. links * S.lanes) (sym grid.fits) in
    let links : c.loop-link.link ≡ S.links = omega (arith, c.loop-link-test.false, c.loop-link.auto.link-end, c.links-link-end.ensures, grid.fits, ap (λ s. s.links) size) in
    let all : then_steps {T = g.row.T.Denot} start (all_lanes c.loop-link.link c.size-size.result.lanes) ≡ sweep_of S = rw (links, size) refl in
    swept before grid.fits (omega (arith, c.slots.ensures, c.if-slots.false, ap slot_count size))
    (g.met.P.Policy.safe grid.layout t.lanes.size.lanes t.lanes.size.depth t.capacity (length c.args.slots.now)) grid.reached grid.standing
    (omega (arith, lanes, c.if-streams-lanes.false)) (omega (arith, lanes, c.if-items-lanes.false))
    (subst (λ (calls : History g.row.T.Denot). Told calls before c.loop-link.told after) all c.loop-link.invariant.told) c.loop-link.invariant.items
    (rw (links, size) at c.loop-link.invariant.steps)
