use Rattle.layouts.specs.Layout.{meaning_by}
use Rattle.std.proofs.Common.{vec_items}
use Rattle.std.proofs.lemmas.Result.{err_from_is_err_and}
use Rattle.model.specs.Kinds.{by_rules}
use Rattle.runs.proofs.Openings.{given_opens, given_declined, best_opens, best_declined}
use Rattle.runs.proofs.given_or_best.GivenOrBestRoutingClimbing.open.Goals as goal

pub returns-in_ok-open-in-Given-clause-made : goal.returns-in_ok-open-in-Given-clause-made
returns-in_ok-open-in-Given-clause-made g c =
    let a = c.args in
    let m = meaning_by g.L.Ways.topology g.L.Rules.turns a.grid.now.layout in
    rw c.in-Given.is
    (given_opens (by_rules m) a.grid.now.tables c.open.new.self.tables a.stream a.request a.values.now a.marks.now
    (vec_items c.in-Given.hops) (rw c.as_slice.ensures.value at c.in_ok-open-in-Given.ensures.made))

pub returns-in_err-open-in-Given-clause-made : goal.returns-in_err-open-in-Given-clause-made
returns-in_err-open-in-Given-clause-made g c =
    let a = c.args in
    let m = meaning_by g.L.Ways.topology g.L.Rules.turns a.grid.now.layout in
    let e = err_from_is_err_and c.from_residual.result c.from_residual.ensures.1 in
    rw (c.in-Given.is, e.1, e.2)
    (given_declined (by_rules m) a.grid.now.tables c.open.new.self.tables a.stream a.request a.values.now a.marks.now
    (vec_items c.in-Given.hops) c.in_err-open-in-Given.field-0.0 (rw c.as_slice.ensures.value at c.in_err-open-in-Given.ensures.made))

pub returns-in_ok-count-in-Best-clause-made : goal.returns-in_ok-count-in-Best-clause-made
returns-in_ok-count-in-Best-clause-made g c =
    let a = c.args in
    let m = meaning_by g.L.Ways.topology g.L.Rules.turns a.grid.now.layout in
    rw c.in-Best.is
    (best_opens (g.M.Measure.scale c.in-Best.measure) m a.grid.now.tables c.seek.new.self.tables
    a.stream a.request a.values.now a.marks.now c.in_ok-count-in-Best.count c.in_ok-count-in-Best.ensures.made)

pub returns-in_err-count-in-Best-clause-made : goal.returns-in_err-count-in-Best-clause-made
returns-in_err-count-in-Best-clause-made g c =
    let a = c.args in
    let m = meaning_by g.L.Ways.topology g.L.Rules.turns a.grid.now.layout in
    let e = err_from_is_err_and c.from_residual-in_err-count-in-Best.result c.from_residual-in_err-count-in-Best.ensures.1 in
    rw (c.in-Best.is, e.1, e.2)
    (best_declined (g.M.Measure.scale c.in-Best.measure) m a.grid.now.tables c.seek.new.self.tables
    a.stream a.request a.values.now a.marks.now c.in_err-count-in-Best.field-0.0 c.in_err-count-in-Best.ensures.made)
