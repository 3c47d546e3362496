-- The outline of a grid: which streams its items are of, without the items.
use Rattle.std.specs.Prelude.{map}
use Rattle.model.specs.Grid.{Queue, Grid}

-- a queue, and a grid, with all items alike
abbrev pub alike : {T : Type 0} → Queue T → Queue (Unit {0})
alike queue = map (λ i. (i.0, tt)) queue

abbrev pub without_items : {T : Type 0} → Grid T → Grid (Unit {0})
without_items g = record { streams = g.streams; contents = λ link lane. alike (g.contents link lane); places = g.places }
