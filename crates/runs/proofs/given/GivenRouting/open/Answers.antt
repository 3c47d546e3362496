use Rattle.std.proofs.Common.{vec_items}
use Rattle.std.proofs.lemmas.Result.{err_from_is_err_and}
use Rattle.runs.proofs.Openings.{given_opens, given_declined}
use Rattle.runs.proofs.given.GivenRouting.open.Goals as goal

pub returns-clause-made : goal.returns-clause-made
returns-clause-made g c =
    let a = c.args in
    given_opens (g.P.Policy.kind a.grid.now.layout) a.grid.now.tables c.open.new.self.tables a.stream a.request a._values.now a._marks.now
    (vec_items a.self.now.0) (rw c.as_slice.ensures.value at c.in_ok-open.ensures.made)

pub returns-in_err-open-clause-made : goal.returns-in_err-open-clause-made
returns-in_err-open-clause-made g c =
    let a = c.args in
    let e = err_from_is_err_and c.from_residual.result c.from_residual.ensures.1 in
    rw (e.1, e.2)
    (given_declined (g.P.Policy.kind a.grid.now.layout) a.grid.now.tables c.open.new.self.tables a.stream a.request a._values.now a._marks.now
    (vec_items a.self.now.0) c.in_err-open.field-0.0 (rw c.as_slice.ensures.value at c.in_err-open.ensures.made))
