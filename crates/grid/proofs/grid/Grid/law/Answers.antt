use Rattle.std.proofs.Common.{length}
use Rattle.model.proofs.Reopening.{link_bears}
use Rattle.grid.proofs.Stands.{law_from}
use Rattle.grid.proofs.Bounding.{bound_from}
use Rattle.grid.proofs.grid.Grid.law.Goals as goal

pub returns-clause-loads : goal.returns-clause-loads
returns-clause-loads g c =
    let grid = c.args.self.now in
    let t = grid.tables in
    link_bears (g.P.Policy.kind grid.layout) t.lanes.size.lanes t.capacity (g.met.P.Policy.reopens grid.layout t.lanes.size.lanes t.capacity) _ grid.reached

pub returns-clause-calls : goal.returns-clause-calls
returns-clause-calls g c =
    let grid = c.args.self.now in
    let t = grid.tables in
    law_from (g.P.Policy.kind grid.layout) t grid.fits c.args.slots.now
    (g.met.P.Policy.safe grid.layout t.lanes.size.lanes t.lanes.size.depth t.capacity (length c.args.slots.now)) grid.reached grid.standing

pub returns-clause-sweeps : goal.returns-clause-sweeps
returns-clause-sweeps g c =
    let grid = c.args.self.now in
    let t = grid.tables in
    bound_from (g.P.Policy.kind grid.layout) t c.args.slots.now grid.fits
    (g.met.P.Policy.safe grid.layout t.lanes.size.lanes t.lanes.size.depth t.capacity (length c.args.slots.now)) grid.reached grid.standing
