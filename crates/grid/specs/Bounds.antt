-- The bound of sweeps.
use Rattle.std.specs.Prelude.{◌≡◌, ◌≤◌, List, [], ◌∷◌, ◌++◌, length}
use Rattle.std.specs.List.{sum_by}
use Rattle.model.specs.Kinds.{Kind}
use Rattle.model.specs.Sweeps.{KeepsBound}
use Rattle.lanes.specs.Sizes.{slot_count}
use Rattle.grid.specs.declared.sweep.Sweep.{Sweep}
use Rattle.grid.specs.declared.tables.Tables.{Tables}
use Rattle.grid.specs.Views.{view, setting}
use Rattle.grid.specs.Sweeps.{Workspace, Swept}

-- Sweeps called one after another on a grid of a kind, none of them declined, with what each told. To each may be lent other tables
-- for what comes out.
pub data SweptInTurn {T : Type 0} (k : Kind) (t : Tables) (xs : List T) : List Sweep → Tables → List T → Type 0 where
  no_sweep : SweptInTurn k t xs [] t xs
  one_more : {told : List Sweep} {before after : Workspace T} (s : Sweep) → SweptInTurn k t xs told before.tables before.slots
      → before.kind ≡ k → Swept before s after → SweptInTurn k t xs (told ++ (s ∷ [])) after.tables after.slots

-- Where there are slots enough, the bound holds of all sweeps called next.
abbrev pub BoundFrom : {T : Type 0} → Kind → Tables → List T → Type 0
BoundFrom {T} k t xs =
    slot_count t.lanes.size ≤ length xs → (told : List Sweep) (t' : Tables) (xs' : List T) → SweptInTurn k t xs told t' xs'
    → KeepsBound (setting k t (length xs)) (view t xs) (length told) (sum_by (λ s. s.steps) told) (view t' xs')
