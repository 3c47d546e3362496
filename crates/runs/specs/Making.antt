-- What making a call answers and leaves.
use Rattle.std.specs.Prelude.{◌≡◌, List, Result}
use Rattle.model.specs.Runs.{History}
use Rattle.model.specs.Outlines.{without_items}
use Rattle.grid.specs.declared.tables.Tables.{Tables}
use Rattle.grid.specs.Views.{view, outline}
use Rattle.grid.specs.InTurn.{InTurn}
use Rattle.runs.specs.declared.call.Call.{Call}
use Rattle.runs.specs.declared.call.Failure.{Failure}
use Rattle.runs.specs.declared.call.Reply.{Reply}
use Rattle.runs.specs.Meanings.{Conditions, Means}

-- What tables and slots show is, without the items, the outline: so it is where the slots are enough for all lanes, and where
-- no lane contains an item.
abbrev pub Shown : {T : Type 0} → Tables → List T → Type 0
Shown t slots = without_items (view t slots) ≡ outline t

-- the calls of the grid in words that a call is are made in turn
abbrev pub MakesCall : {R T : Type 0} → Conditions R → Tables → List T → Call T R → Result (Reply T) Failure
    → Tables → List T → Type 0
MakesCall {T = T} C t xs c r t' xs' =
    (made : History T) × Means C (view t xs) c r made × InTurn C.kind t xs made t' xs'
