-- What a seek answers and leaves.
use Rattle.std.specs.Prelude.{ℕ, List, Result}
use Rattle.layouts.specs.Layout.{Meaning}
use Rattle.routes.specs.declared.declined.Declined.{Declined}
use Rattle.routes.specs.declared.hop.Hop.{Hop}
use Rattle.routes.specs.declared.stream.Request.{Request}
use Rattle.model.specs.Kinds.{by_rules}
use Rattle.model.specs.Calls.{opens, done}
use Rattle.search.specs.Scales.{Scale}
use Rattle.search.specs.Seeks.{SeekFinds, SeekBy}
use Rattle.grid.specs.declared.tables.Tables.{Tables}
use Rattle.grid.specs.Views.{streams_in}
use Rattle.grid.specs.Makes.{Same, Edits}

-- what a seek finds on these tables
abbrev pub SeekFindsIn : {V : Type 0} → Scale V → Meaning → Tables → ℕ → Request → ℕ → ℕ → Result (List Hop) Declined → Type 0
SeekFindsIn s m t n q values marks r = SeekFinds s m t.lanes.size.lanes t.capacity (streams_in t) n q values marks r

-- A seek opens the stream on the route that it finds, and all else of the grid is as that opening leaves it; or it changes nothing.
abbrev pub Seeks : {V : Type 0} → Scale V → Meaning → Tables → ℕ → Request → ℕ → ℕ → Result ℕ Declined → Tables → Type 0
Seeks s m t n q values marks r t' = SeekBy (SeekFindsIn s m t n q values marks) (λ hops. Edits (by_rules m) t (opens n q hops) done t') (Same t t') r
