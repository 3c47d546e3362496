use Rattle.std.proofs.Common.{sym, ◌∙◌}
use Rattle.grid.proofs.Most.{grid_hops_are}
use Rattle.grid.proofs.grid.Grid.hops_ahead.Goals as goal

pub returns : goal.returns
returns g c =
    let grid = c.args.self.now in
    c.hops_ahead.ensures ∙ sym (grid_hops_are grid.tables (g.P.Policy.kind grid.layout) grid.fits 0)
