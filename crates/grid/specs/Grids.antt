-- What a grid shows of itself, and of the items in lent slots.
use Rattle.std.specs.Prelude.{ℕ, List}
use Rattle.layouts.specs.declared.ways.Ways as ways
use Rattle.policies.specs.declared.policy.Policy as policies
use Rattle.model.specs.Grid.{Setting, Grid as GridInWords}
use Rattle.model.specs.Kinds.{Kind}
use Rattle.grid.specs.declared.grid.Grid.{Grid}
use Rattle.grid.specs.declared.tables.Tables.{Tables}
use Rattle.grid.specs.Views.{view, outline, setting}

module _ {W P : Type 0} {w : ways.Ghosts W} {p : policies.Ghosts P W} where
  -- its ways, its kind, and its tables
  abbrev pub ways_of : Grid W P w p → W
  ways_of g = g.layout

  abbrev pub kind_of : Grid W P w p → Kind
  kind_of g = policies.Ghosts.kind p g.layout

  abbrev pub tables_of : Grid W P w p → Tables
  tables_of g = g.tables

  -- its setting with so many slots, and the grid in words with these slots
  abbrev pub setting_with : Grid W P w p → ℕ → Setting
  setting_with g slots = setting (kind_of g) g.tables slots

  abbrev pub view_with : {T : Type 0} → Grid W P w p → List T → GridInWords T
  view_with g slots = view g.tables slots

  -- the grid in words without its items
  abbrev pub outline_of : Grid W P w p → GridInWords (Unit {0})
  outline_of g = outline g.tables
