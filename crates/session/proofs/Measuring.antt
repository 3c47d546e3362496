-- A seek by the choice of two measures is a seek by the one that is named.
use Rattle.std.proofs.Common.{ℕ, Ok, Err, Result}
use Rattle.layouts.specs.Layout.{Meaning}
use Rattle.routes.specs.declared.declined.Declined.{Declined}
use Rattle.routes.specs.declared.stream.Request.{Request}
use Rattle.search.specs.Scales.{Scale, total, peak}
use Rattle.search.specs.Finds.{values_needed, marks_needed}
use Rattle.search.proofs.Choices.{Holds, finds_so, holds_first, holds_second}
use Rattle.grid.specs.declared.tables.Tables.{Tables}
use Rattle.grid.specs.Seeks.{Seeks}
use Rattle.script.specs.declared.command.MeasureName.{MeasureName}
use Rattle.script.specs.declared.command.MeasureName.TheVariants.{Total, Peak}
use Rattle.session.specs.Measures.{scale_of}
use Rattle.session.specs.Sessions.{SeeksByName}

module _ (m : Meaning) (t t' : Tables) (n : ℕ) (q : Request) (values marks : ℕ) where
  seeks_so : {V W : Type 0} (large : Scale W) (small : Scale V) (value : V → W) → Holds large small value → (a : Result ℕ Declined)
      → Seeks large m t n q values marks a t' → Seeks small m t n q values marks a t'
  seeks_so large small value holds (Ok count) seeks = (seeks.0, seeks.1, finds_so large small value holds _ _ q (Ok seeks.0) seeks.2, seeks.3)
  seeks_so large small value holds (Err d) seeks = (finds_so large small value holds _ _ q (Err d) seeks.0, seeks.1)

pub seeks_by_name : (m : Meaning) (t t' : Tables) (n : ℕ) (q : Request) (measure : MeasureName) (a : Result ℕ Declined)
    → Seeks (scale_of measure) m t n q (values_needed m.links t.lanes.size.lanes) (marks_needed m.links t.lanes.size.lanes) a t' → SeeksByName measure m t n q a t'
seeks_by_name m t t' n q Total a seeks = seeks_so m t t' n q _ _ (scale_of Total) total _ (holds_first total peak) a seeks
seeks_by_name m t t' n q Peak a seeks = seeks_so m t t' n q _ _ (scale_of Peak) peak _ (holds_second total peak) a seeks
