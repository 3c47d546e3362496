use Rattle.layouts.specs.Layout.{meaning_by}
use Rattle.model.proofs.Sounding.{sound_of}
use Rattle.grid.specs.Views.{streams_in}
use Rattle.grid.proofs.law.Grid+L.law_by_rules.Goals as goal

pub returns : goal.returns
returns g c =
    let grid = c.args.self.now in
    let t = grid.tables in
    sound_of (meaning_by g.L.Ways.topology g.L.Rules.turns grid.layout) t.lanes.size.lanes t.capacity (streams_in t) grid.reached
