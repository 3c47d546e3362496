-- Plans that are written and loaded, and loaded and written.
use Rattle.std.specs.Prelude.{◌≡◌, ℕ, ◌<◌, ◌≤◌, List, [], ◌∷◌, length, None, Ok, Option, Result}
use Rattle.routes.specs.Routes.{OpenStream}
use Rattle.model.specs.Kinds.{Kind}
use Rattle.grid.specs.declared.tables.Tables.{Tables}
use Rattle.grid.specs.Blank.{BlankTables}
use Rattle.grid.specs.Views.{streams_in}
use Rattle.codec.specs.declared.head.GridSizes.{GridSizes}
use Rattle.codec.specs.declared.head.HeadNumbers.{HeadNumbers}
use Rattle.codec.specs.Heads.{head_at, values_of}
use Rattle.codec.specs.Records.{Entry}
use Rattle.plan.specs.declared.fault.LoadFault.{LoadFault}
use Rattle.plan.specs.Loads.{loading_on, Loads}
use Rattle.plan.specs.Plans.{open_streams}
use Rattle.plan.specs.Writes.{written}

-- A plan loads as these streams: on every blank grid of the kind and of these sizes it loads to its end, and then just these are open.
abbrev pub LoadsAs : Kind → GridSizes → (ℕ → Option OpenStream) → List ℕ → Type 0
LoadsAs kind sizes streams plan =
    (t t' : Tables) (r : Result ℕ LoadFault) → BlankTables kind.links sizes.lanes sizes.depth sizes.capacity t → Loads kind t plan r t'
    → (r ≡ Ok (length (open_streams streams))) × ((n : ℕ) → streams_in t' n ≡ streams n)

-- the streams of these records rise in number
abbrev pub Rise : List Entry → Type 0
Rise [] = Unit {0}
Rise (e ∷ []) = Unit {0}
Rise (e ∷ (f ∷ more)) = (e.stream < f.stream) × Rise (f ∷ more)

-- A plan that has loaded on a grid with no stream, its streams in rising number, is what the writer writes of the grid then: with the plan's own
-- head, into any buffer that is long enough, byte for byte.
abbrev pub WrittenBack : Kind → Tables → List ℕ → Tables → Type 0
WrittenBack kind t plan t' =
    ((n : ℕ) → streams_in t n ≡ None) → Rise (loading_on kind t plan).opened
    → (h : HeadNumbers) × (head_at plan ≡ Ok h) × ((size : ℕ) → length plan ≤ size → written (values_of h) t' size ≡ Ok plan)
