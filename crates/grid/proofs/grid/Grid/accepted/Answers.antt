use Rattle.std.proofs.Common.{sym, ◌∙◌}
use Rattle.std.proofs.lemmas.Bool.{true≢false}
use Rattle.routes.proofs.Verdicts.{passed_by}
use Rattle.grid.specs.Views.{streams_in}
use Rattle.grid.proofs.grid.Grid.accepted.Goals as goal

pub returns : goal.returns
returns g c =
    let grid = c.args.self.now in
    let t = grid.tables in
    let size = t.lanes.size in
    let limits = c.limits.ensures in
    let none = rw (limits.lanes, limits.capacity, limits.streams) at (passed_by _ c.in_ok-judge.ensures) in
    let takes = (g.met.P.Policy.safe grid.layout size.lanes size.depth t.capacity 0).takes (streams_in t) c.args.request c.args.hops.now none in
    (none, c.in_ok-new.ensures.1, rw grid.fits at takes.there)

-- what the policy lets in has an allowed count of hops
pub returns-in_err-new : goal.returns-in_err-new
returns-in_err-new g c =
    let grid = c.args.self.now in
    let t = grid.tables in
    let size = t.lanes.size in
    let limits = c.limits.ensures in
    let none = rw (limits.lanes, limits.capacity, limits.streams) at (passed_by _ c.in_ok-judge.ensures) in
    let takes = (g.met.P.Policy.safe grid.layout size.lanes size.depth t.capacity 0).takes (streams_in t) c.args.request c.args.hops.now none in
    absurd (true≢false (sym takes.count ∙ c.in_err-new.ensures.0))
