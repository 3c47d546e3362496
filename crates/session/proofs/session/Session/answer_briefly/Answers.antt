use Rattle.std.proofs.Common.{vec_items}
use Rattle.layouts.specs.Mesh.{meaning_of}
use Rattle.session.specs.Hands.{hand_of}
use Rattle.session.specs.Sessions.{Opens, Closes, Sends, Steps, Sweeps, Drains, LoadsPlan, told, short}
use Rattle.session.proofs.OnGrids.{on_grid, grid_made, told_short}
use Rattle.session.proofs.session.Session.answer_briefly.Goals as goal

pub returns-in-Grid-clause-value : goal.returns-in-Grid-clause-value
returns-in-Grid-clause-value c =
    let mesh = c.in_ok-mesh-in-Grid.ensures.value in
    rw c.in-Grid.is
    (grid_made (hand_of c.args.self.now) (hand_of c.make.new.self) c.in-Grid.rule c.in-Grid.width c.in-Grid.height c.in-Grid.lanes c.in-Grid.depth c.in-Grid.capacity
    (meaning_of c.in_ok-mesh-in-Grid.mesh) mesh.0 mesh.1 (rw c.head_of.ensures at c.in_ok-make-in-Grid.ensures.value))

pub returns-in-Some-clause-value : goal.returns-in-Some-clause-value
returns-in-Some-clause-value c =
    let kept = c.args.self.now.long in
    rw (c.in-Open.is, told_short kept c.open.result c.map.result c.map.ensures.cases)
    (on_grid (Opens c.in-Open.stream c.in-Open.request (vec_items c.in-Open.hops)) c.args.self.now c.in-Some.grid c.open.new.self (short c.open.result) kept c.in-Some.is
    (rw c.as_slice-in-Some.ensures.value at c.open.ensures))

pub returns-in-Some-grid-clause-value : goal.returns-in-Some-grid-clause-value
returns-in-Some-grid-clause-value c =
    let kept = c.args.self.now.long in
    rw (c.in-Close.is, told_short kept c.close.result c.map-in-Some-grid.result c.map-in-Some-grid.ensures.cases)
    (on_grid (Closes c.in-Close.stream) c.args.self.now c.in-Some-grid.grid c.close.new.self (short c.close.result) kept c.in-Some-grid.is c.close.ensures)

pub returns-in-Some-grid-2-clause-value : goal.returns-in-Some-grid-2-clause-value
returns-in-Some-grid-2-clause-value c =
    let kept = c.args.self.now.long in
    rw (c.in-Send.is, told_short kept c.send.result c.map-in-Some-grid-2.result c.map-in-Some-grid-2.ensures.cases)
    (on_grid (Sends c.in-Send.stream c.in-Send.strip) c.args.self.now c.in-Some-grid-2.grid c.send.new.self (short c.send.result) kept c.in-Some-grid-2.is c.send.ensures)

pub returns-in-Some-grid-3-clause-value : goal.returns-in-Some-grid-3-clause-value
returns-in-Some-grid-3-clause-value c =
    let kept = c.args.self.now.long in
    rw (c.in-Step.is, told_short kept c.step.result c.map-in-Some-grid-3.result c.map-in-Some-grid-3.ensures.cases)
    (on_grid (Steps c.in-Step.hop) c.args.self.now c.in-Some-grid-3.grid c.step.new.self (short c.step.result) kept c.in-Some-grid-3.is c.step.ensures)

pub returns-in-Some-grid-4-clause-value : goal.returns-in-Some-grid-4-clause-value
returns-in-Some-grid-4-clause-value c =
    rw c.in-Sweep.is (on_grid Sweeps c.args.self.now c.in-Some-grid-4.grid c.sweep.new.self (told c.sweep.result) c.args.self.now.long c.in-Some-grid-4.is c.sweep.ensures)

pub returns-in-Some-grid-5-clause-value : goal.returns-in-Some-grid-5-clause-value
returns-in-Some-grid-5-clause-value c =
    rw c.in-Drain.is (on_grid Drains c.args.self.now c.in-Some-grid-5.grid c.drain.new.self (told c.drain.result) c.args.self.now.long c.in-Some-grid-5.is c.drain.ensures)

pub returns-in-Some-grid-6-clause-value : goal.returns-in-Some-grid-6-clause-value
returns-in-Some-grid-6-clause-value c =
    let kept = c.args.self.now.long in
    rw (c.in-Load.is, told_short kept c.load.result c.map-in-Some-grid-6.result c.map-in-Some-grid-6.ensures.cases)
    (on_grid (LoadsPlan (vec_items c.in-Load.plan)) c.args.self.now c.in-Some-grid-6.grid c.load.new.self (short c.load.result) kept c.in-Some-grid-6.is
    (rw c.as_slice-in-Some-grid-6.ensures.value at c.load.ensures))
