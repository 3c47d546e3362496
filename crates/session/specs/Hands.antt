-- What a session has at hand.
use Rattle.std.specs.Prelude.{ℕ, List, Option, vec_items}
use Rattle.std.specs.Option.{option_map}
use Rattle.layouts.specs.Layout.{Meaning}
use Rattle.layouts.specs.Mesh.{meaning_of}
use Rattle.model.specs.Kinds.{Kind, by_rules}
use Rattle.lanes.specs.declared.strip.Strip.{Strip}
use Rattle.grid.specs.declared.tables.Tables.{Tables}
use Rattle.grid.specs.Sweeps.{Workspace}
use Rattle.codec.specs.declared.head.Head.{Head}
use Rattle.session.specs.declared.answer.Answer.{Answer}
use Rattle.session.specs.declared.at_hand.GridAtHand.{GridAtHand}
use Rattle.session.specs.declared.session.Session.{Session}

-- A grid with what it is lent: the head under which its plan is written, the meaning of its layout, its tables, the strips in its slots, and
-- two tables for what comes out, the streams and the items.
pub record GridHand : Type 0 where
  pub head : Head
  pub layout : Meaning
  pub tables : Tables
  pub slots : List Strip
  pub streams : List ℕ
  pub items : List Strip

-- the kind of the grid: by the rules of its layout
abbrev pub kind_of : GridHand → Kind
kind_of g = by_rules g.layout

-- the grid with what it is lent, as sweeps work on it
abbrev pub workspace_of : GridHand → Workspace Strip
workspace_of g = record { kind = kind_of g; tables = g.tables; slots = g.slots; streams = g.streams; items = g.items }

-- The meaning of the mesh made last, and the grid made last.
pub record Hand : Type 0 where
  pub mesh : Option Meaning
  pub grid : Option GridHand

abbrev pub grid_of : GridAtHand → GridHand
grid_of g = record {
  head = g.head;
  layout = meaning_of g.grid.layout;
  tables = g.grid.tables;
  slots = vec_items g.slots;
  streams = vec_items g.streams;
  items = vec_items g.items;
}

abbrev pub hand_of : Session → Hand
hand_of s = record { mesh = option_map meaning_of s.mesh; grid = option_map grid_of s.grid }

-- the long answer that a session keeps
abbrev pub kept_of : Session → Answer
kept_of s = s.long
