-- The tables of a grid, with lent slots, as the grid in words.
use Rattle.std.specs.Prelude.{ℕ, List, Option}
use Rattle.model.specs.Kinds.{Kind, on_kind}
use Rattle.routes.specs.Routes.{OpenStream, streams_of}
use Rattle.model.specs.Grid.{Setting, Grid}
use Rattle.lanes.specs.Queues.{alike_slots, queues_of}
use Rattle.grid.specs.declared.tables.Tables.{Tables}

-- the open streams by number
abbrev pub streams_in : Tables → ℕ → Option OpenStream
streams_in t = streams_of t.streams

-- the grid of some lanes, with open streams
abbrev pub with_streams : {T : Type 0} → (ℕ → Option OpenStream) → Grid T → Grid T
with_streams streams g = record { streams = streams; contents = g.contents; places = g.places }

-- what the tables say of the grid, where the items stand in these slots
abbrev pub view : {T : Type 0} → Tables → List T → Grid T
view t slots = with_streams (streams_in t) (queues_of t.lanes slots)

-- slots for all lanes, whose items are all alike
abbrev pub slots_alike : Tables → List (Unit {0})
slots_alike t = alike_slots t.lanes.size

-- The grid without its items: which stream each item is of. It is told by the tables alone, whatever the slots hold.
abbrev pub outline : Tables → Grid (Unit {0})
outline t = view t (slots_alike t)

-- the grid's setting of this kind, with so many slots lent
abbrev pub setting : Kind → Tables → ℕ → Setting
setting k t slots = on_kind k t.lanes.size.lanes t.lanes.size.depth t.capacity slots
