use Rattle.std.proofs.Common.{length}
use Rattle.std.proofs.lemmas.Result.{err_from_is_err_and}
use Rattle.model.specs.Calls.{opens, done}
use Rattle.grid.specs.Views.{slots_alike, outline}
use Rattle.grid.proofs.Editing.{edit_refused, opening_edits, not_vacant, not_acceptable}
use Rattle.grid.proofs.Reaching.{reached_open}
use Rattle.grid.proofs.Stands.{edited_stands}
use Rattle.grid.proofs.grid.Grid.open.Goals as goal

pub returns-in_err-vacant-clause-made : goal.returns-in_err-vacant-clause-made
returns-in_err-vacant-clause-made g c =
    let t = c.args.self.now.tables in
    let e = err_from_is_err_and c.from_residual.result c.from_residual.ensures.1 in
    rw (e.1, e.2)
    (edit_refused (g.P.Policy.kind c.args.self.now.layout) t _ _
    (not_vacant _ (outline t) c.args.stream c.args.request c.args.hops.now _ c.in_err-vacant.ensures))

pub returns-in_err-route-clause-made : goal.returns-in_err-route-clause-made
returns-in_err-route-clause-made g c =
    let t = c.args.self.now.tables in
    let e = err_from_is_err_and c.from_residual-in_err-route.result c.from_residual-in_err-route.ensures.1 in
    rw (e.1, e.2)
    (edit_refused (g.P.Policy.kind c.args.self.now.layout) t _ _
    (not_acceptable _ (outline t) c.args.stream c.args.request c.args.hops.now _ c.in_ok-vacant.ensures c.in_err-route.ensures))

pub returns-clause-made : goal.returns-clause-made
returns-clause-made g c =
    let grid = c.args.self.now in
    opening_edits (g.P.Policy.kind grid.layout) grid.tables c.put.new.self c.args.stream c.put.ensures.lanes c.put.ensures.capacity c.args.request c.args.hops.now
    (rw c.in_ok-route.ensures.1 at c.put.ensures.streams) c.in_ok-vacant.ensures c.in_ok-route.ensures.0

pub invariant_of-self-clause-reached : goal.invariant_of-self-clause-reached
invariant_of-self-clause-reached g c =
    let grid = c.args.self.now in
    rw (c.put.ensures.lanes, c.put.ensures.capacity, c.put.ensures.streams, c.in_ok-route.ensures.1)
    (reached_open _ _ grid.reached c.args.stream c.args.request c.args.hops.now c.in_ok-vacant.ensures c.in_ok-route.ensures.0)

pub invariant_of-self-clause-standing : goal.invariant_of-self-clause-standing
invariant_of-self-clause-standing g c =
    let grid = c.args.self.now in
    let t = grid.tables in
    edited_stands (g.P.Policy.kind grid.layout) t grid.fits
    (g.met.P.Policy.safe grid.layout t.lanes.size.lanes t.lanes.size.depth t.capacity (length (slots_alike t))) grid.reached grid.standing
    (opens c.args.stream c.args.request c.args.hops.now) done c.put.new.self (opening_edits _ grid.tables c.put.new.self c.args.stream c.put.ensures.lanes c.put.ensures.capacity c.args.request c.args.hops.now (rw c.in_ok-route.ensures.1 at c.put.ensures.streams) c.in_ok-vacant.ensures c.in_ok-route.ensures.0)
