use Rattle.std.proofs.Common.{vec_items, Some, None, Ok, Err, refl}
use Rattle.std.proofs.lemmas.Bool.{and_parts}
use Rattle.std.proofs.lemmas.Result.{err_from_is_err_and}
use Rattle.routes.specs.Checks.{no_hop}
use Rattle.plan.proofs.Loading.{rest_stays}
use Rattle.plan.specs.Loads.{sizes_of, loading_on}
use Rattle.runs.specs.declared.call.Failure.TheVariants as failure
use Rattle.runs.specs.declared.call.Reply.TheVariants.{Done, Stepped}
use Rattle.runs.specs.Routings.{finding}
use Rattle.runs.specs.Meanings.{conditions}
use Rattle.runs.proofs.Edited.{closed}
use Rattle.runs.proofs.Showing.{shown_same, shown_sent, shown_stepped, shown_turn}
use Rattle.runs.proofs.Making.{one_made, opening_made, opening_lanes, sweep_declined, load_made}
use Rattle.runs.proofs.make.make.Goals as goal

-- ---- an opening

pub returns-in-None-clause-made : goal.returns-in-None-clause-made
returns-in-None-clause-made g c =
    rw c.in-Open.is (opening_made {r = Ok None} c.args.lent.now.slots.now (rw c.in-None.is at c.in_ok-open-in-Open.ensures.made))

pub returns-in-Some-clause-made : goal.returns-in-Some-clause-made
returns-in-Some-clause-made g c =
    rw c.in-Open.is (opening_made {r = Ok (Some c.in-Some.count)} c.args.lent.now.slots.now (rw c.in-Some.is at c.in_ok-open-in-Open.ensures.made))

pub returns-in_err-open-in-Open-clause-made : goal.returns-in_err-open-in-Open-clause-made
returns-in_err-open-in-Open-clause-made g c =
    let e = err_from_is_err_and c.from_residual.result c.from_residual.ensures.1 in
    rw (c.in-Open.is, e.1, e.2) (opening_made c.args.lent.now.slots.now c.in_err-open-in-Open.ensures.made)

pub returns-in-None-clause-shown : goal.returns-in-None-clause-shown
returns-in-None-clause-shown g c =
    shown_same c.args.grid.now.tables c.open.new.grid.tables c.args.lent.now.slots.now (opening_lanes c.in_ok-open-in-Open.ensures.made) c.requires

pub returns-in-Some-clause-shown : goal.returns-in-Some-clause-shown
returns-in-Some-clause-shown g c =
    shown_same c.args.grid.now.tables c.open.new.grid.tables c.args.lent.now.slots.now (opening_lanes c.in_ok-open-in-Open.ensures.made) c.requires

-- ---- a closing

pub returns-in_ok-close-in-Close-clause-made : goal.returns-in_ok-close-in-Close-clause-made
returns-in_ok-close-in-Close-clause-made g c =
    let grid = c.args.grid.now in
    let makes =
    closed (g.P.Policy.kind grid.layout) grid.tables c.close.new.self.tables c.in-Close.stream None c.args.lent.now.slots.now c.requires
    c.in_ok-close-in-Close.ensures.made in
    rw c.in-Close.is (one_made (Ok Done) makes refl)

pub returns-in_err-close-in-Close-clause-made : goal.returns-in_err-close-in-Close-clause-made
returns-in_err-close-in-Close-clause-made g c =
    let grid = c.args.grid.now in
    let e = err_from_is_err_and c.from_residual-in_err-close-in-Close.result c.from_residual-in_err-close-in-Close.ensures.1 in
    let d = no_hop c.in_err-close-in-Close.field-0.0 in
    let makes =
    closed (g.P.Policy.kind grid.layout) grid.tables c.close.new.self.tables c.in-Close.stream (Some d) c.args.lent.now.slots.now c.requires
    c.in_err-close-in-Close.ensures.made in
    rw (c.in-Close.is, e.1, e.2) (one_made (Err (failure.Declined d)) makes refl)

pub returns-in_ok-close-in-Close-clause-shown : goal.returns-in_ok-close-in-Close-clause-shown
returns-in_ok-close-in-Close-clause-shown g c =
    shown_same c.args.grid.now.tables c.close.new.self.tables c.args.lent.now.slots.now c.in_ok-close-in-Close.ensures.made.lanes c.requires

-- ---- a send and a step

pub returns-in_ok-send-in-Send-clause-made : goal.returns-in_ok-send-in-Send-clause-made
returns-in_ok-send-in-Send-clause-made g c = rw c.in-Send.is (one_made (Ok Done) c.in_ok-send-in-Send.ensures.made refl)

pub returns-in_err-send-in-Send-clause-made : goal.returns-in_err-send-in-Send-clause-made
returns-in_err-send-in-Send-clause-made g c =
    let e = err_from_is_err_and c.from_residual-in_err-send-in-Send.result c.from_residual-in_err-send-in-Send.ensures.1 in
    rw (c.in-Send.is, e.1, e.2) (one_made (Err (failure.Declined (no_hop c.in_err-send-in-Send.field-0.0))) c.in_err-send-in-Send.ensures.made refl)

pub returns-in_ok-send-in-Send-clause-shown : goal.returns-in_ok-send-in-Send-clause-shown
returns-in_ok-send-in-Send-clause-shown g c =
    let grid = c.args.grid.now in
    shown_sent (g.P.Policy.kind grid.layout) grid.tables c.send.new.self.tables grid.fits c.args.lent.now.slots.now c.send.new.slots
    c.in-Send.stream c.in-Send.item c.in_ok-send-in-Send.ensures.made

pub returns-in_ok-step-in-Step-clause-made : goal.returns-in_ok-step-in-Step-clause-made
returns-in_ok-step-in-Step-clause-made g c =
    rw c.in-Step.is (one_made (Ok (Stepped c.in_ok-step-in-Step.field-0)) c.in_ok-step-in-Step.ensures.made refl)

pub returns-in_err-step-in-Step-clause-made : goal.returns-in_err-step-in-Step-clause-made
returns-in_err-step-in-Step-clause-made g c =
    let e = err_from_is_err_and c.from_residual-in_err-step-in-Step.result c.from_residual-in_err-step-in-Step.ensures.1 in
    rw (c.in-Step.is, e.1, e.2) (one_made (Err (failure.Declined (no_hop c.in_err-step-in-Step.field-0.0))) c.in_err-step-in-Step.ensures.made refl)

pub returns-in_ok-step-in-Step-clause-shown : goal.returns-in_ok-step-in-Step-clause-shown
returns-in_ok-step-in-Step-clause-shown g c =
    let grid = c.args.grid.now in
    shown_stepped (g.P.Policy.kind grid.layout) grid.tables c.step.new.self.tables grid.fits c.args.lent.now.slots.now c.step.new.slots
    c.in-Step.hop.link c.in-Step.hop.lane c.in_ok-step-in-Step.field-0 c.in_ok-step-in-Step.ensures.made

-- ---- a load

pub returns-in_ok-count-in-Load-clause-made : goal.returns-in_ok-count-in-Load-clause-made
returns-in_ok-count-in-Load-clause-made g c =
    let grid = c.args.grid.now in
    let loads = rw c.as_slice.ensures.value at c.in_ok-count-in-Load.ensures.made in
    rw c.in-Load.is
    (load_made (g.P.Policy.kind grid.layout) grid.tables c.args.lent.now.slots.now (vec_items c.in-Load.plan) (Ok c.in_ok-count-in-Load.count)
    c.load.new.grid.tables c.requires loads)

pub returns-in_err-count-in-Load-clause-made : goal.returns-in_err-count-in-Load-clause-made
returns-in_err-count-in-Load-clause-made g c =
    let grid = c.args.grid.now in
    let e = err_from_is_err_and c.from_residual-in_err-count-in-Load.result c.from_residual-in_err-count-in-Load.ensures.1 in
    let loads = rw c.as_slice.ensures.value at c.in_err-count-in-Load.ensures.made in
    rw (c.in-Load.is, e.1, e.2)
    (load_made (g.P.Policy.kind grid.layout) grid.tables c.args.lent.now.slots.now (vec_items c.in-Load.plan) (Err c.in_err-count-in-Load.field-0.0)
    c.load.new.grid.tables c.requires loads)

pub returns-in_ok-count-in-Load-clause-shown : goal.returns-in_ok-count-in-Load-clause-shown
returns-in_ok-count-in-Load-clause-shown g c =
    let grid = c.args.grid.now in
    let k = g.P.Policy.kind grid.layout in
    let stays = rest_stays k (loading_on k grid.tables c.as_slice.result.now).opened grid.tables c.load.new.grid.tables c.in_ok-count-in-Load.ensures.made.1 in
    shown_same grid.tables c.load.new.grid.tables c.args.lent.now.slots.now stays.0 c.requires

pub returns-in_err-count-in-Load-clause-shown : goal.returns-in_err-count-in-Load-clause-shown
returns-in_err-count-in-Load-clause-shown g c =
    let grid = c.args.grid.now in
    let k = g.P.Policy.kind grid.layout in
    let stays = rest_stays k (loading_on k grid.tables c.as_slice.result.now).opened grid.tables c.load.new.grid.tables c.in_err-count-in-Load.ensures.made.1 in
    shown_same grid.tables c.load.new.grid.tables c.args.lent.now.slots.now stays.0 c.requires

-- ---- a sweep

pub returns-in_err-told-in-Sweep-clause-made : goal.returns-in_err-told-in-Sweep-clause-made
returns-in_err-told-in-Sweep-clause-made g c =
    let e = err_from_is_err_and c.from_residual-in_err-told-in-Sweep.result c.from_residual-in_err-told-in-Sweep.ensures.1 in
    let grid = c.args.grid.now in
    let C = conditions (g.P.Policy.kind grid.layout) (sizes_of grid.tables) (finding g.R.Routing.searches g.R.Routing.finds grid.layout) c.args.lent.now in
    rw (c.in-Sweep.is, e.1, e.2) (sweep_declined C c.in_err-told-in-Sweep.ensures.sweeps refl)

pub returns-in_ok-told-in-Sweep-clause-shown : goal.returns-in_ok-told-in-Sweep-clause-shown
returns-in_ok-told-in-Sweep-clause-shown g c =
    let swept = c.in_ok-told-in-Sweep.ensures.sweeps in
    let grid = c.args.grid.now in
    shown_turn (g.P.Policy.kind grid.layout) grid.tables c.sweep.new.self.tables grid.fits c.args.lent.now.slots.now c.sweep.new.slots
    (and_parts _ _ swept.enough).0 swept.works.in_turn
