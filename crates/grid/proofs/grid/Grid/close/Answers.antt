use Rattle.std.proofs.Common.{length, rules, ◌<◌, sym}
use Rattle.std.proofs.lemmas.Result.{err_from_is_err_and}
use Rattle.routes.specs.Loads.{stream_count}
use Rattle.model.specs.Calls.{closes, done}
use Rattle.grid.specs.Views.{slots_alike}
use Rattle.grid.proofs.Editing.{edit_refused, closing_edits, not_open, has_items}
use Rattle.grid.proofs.Reaching.{reached_close}
use Rattle.grid.proofs.Stands.{edited_stands}
use Rattle.grid.proofs.grid.Grid.close.Goals as goal

pub returns-in_err-stream-clause-made : goal.returns-in_err-stream-clause-made
returns-in_err-stream-clause-made g c =
    let grid = c.args.self.now in
    let m = g.P.Policy.kind grid.layout in
    let e = err_from_is_err_and c.from_residual.result c.from_residual.ensures.1 in
    rw (e.1, e.2) (edit_refused m grid.tables _ _ (not_open m grid.tables grid.fits c.args.stream _ (sym c.in_err-stream.ensures.value)))

pub returns-then-items_of-gt0-clause-made : goal.returns-then-items_of-gt0-clause-made
returns-then-items_of-gt0-clause-made g c =
    let grid = c.args.self.now in
    let m = g.P.Policy.kind grid.layout in
    edit_refused m grid.tables _ _
    (has_items m grid.tables grid.fits c.args.stream _ (sym c.in_ok-stream.ensures.value) c.items_of.result c.items_of.ensures c.if-items_of-gt0.true)

pub returns-clause-made : goal.returns-clause-made
returns-clause-made g c =
    let grid = c.args.self.now in
    closing_edits (g.P.Policy.kind grid.layout) grid.tables c.put.new.self c.args.stream c.put.ensures.lanes c.put.ensures.capacity grid.fits c.put.ensures.streams _ (sym c.in_ok-stream.ensures.value)
    c.items_of.result c.items_of.ensures c.if-items_of-gt0.false

pub invariant_of-self-clause-reached : goal.invariant_of-self-clause-reached
invariant_of-self-clause-reached g c =
    let low : c.args.stream < stream_count = search rules in
    rw (c.put.ensures.lanes, c.put.ensures.capacity, c.put.ensures.streams) (reached_close _ _ c.args.self.now.reached c.args.stream low)

pub invariant_of-self-clause-standing : goal.invariant_of-self-clause-standing
invariant_of-self-clause-standing g c =
    let grid = c.args.self.now in
    let t = grid.tables in
    edited_stands (g.P.Policy.kind grid.layout) t grid.fits
    (g.met.P.Policy.safe grid.layout t.lanes.size.lanes t.lanes.size.depth t.capacity (length (slots_alike t))) grid.reached grid.standing
    (closes c.args.stream) done c.put.new.self (closing_edits _ grid.tables c.put.new.self c.args.stream c.put.ensures.lanes c.put.ensures.capacity grid.fits c.put.ensures.streams _ (sym c.in_ok-stream.ensures.value) c.items_of.result c.items_of.ensures c.if-items_of-gt0.false)
