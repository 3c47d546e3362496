-- The law of every grid.
use Rattle.std.specs.Prelude.{◌≤◌, List, length}
use Rattle.model.specs.Kinds.{Kind}
use Rattle.model.specs.Runs.{History}
use Rattle.model.specs.Law.{KeepsFrom}
use Rattle.lanes.specs.Sizes.{slot_count}
use Rattle.grid.specs.declared.tables.Tables.{Tables}
use Rattle.grid.specs.Views.{view, setting}

-- Where there are slots enough, the law holds of all calls made next.
abbrev pub LawFrom : {T : Type 0} → Kind → Tables → List T → Type 0
LawFrom {T} k t xs =
    slot_count t.lanes.size ≤ length xs → (next : History T) → KeepsFrom (setting k t (length xs)) (view t xs) next
