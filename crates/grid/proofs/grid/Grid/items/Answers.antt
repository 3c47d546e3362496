use Rattle.std.proofs.Common.{refl, sym, ◌∙◌}
use Rattle.model.specs.Sums.{one}
use Rattle.model.proofs.Outlines.{grid_sum_same_lanes}
use Rattle.lanes.specs.Sizes.{setting_of}
use Rattle.grid.specs.Views.{outline, setting}
use Rattle.grid.proofs.grid.Grid.items.Goals as goal

pub returns : goal.returns
returns g c =
    let grid = c.args.self.now in
    c.items.ensures ∙ sym (grid_sum_same_lanes (setting (g.P.Policy.kind grid.layout) grid.tables 0) (setting_of grid.tables.lanes.size 0) one (outline grid.tables).contents grid.fits refl)
