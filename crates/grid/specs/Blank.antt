-- What a blank grid is, and when none is made.
use Rattle.std.specs.Prelude.{◌≡◌, ℕ, cond, [], ◌∷◌, Some, None, Option, nat_lt}
use Rattle.refusals.specs.declared.refusal.Refusal.{Refusal}
use Rattle.refusals.specs.declared.refusal.Refusal.TheVariants.{GridSize, ZeroAmount}
use Rattle.routes.specs.Firsts.{first_of}
use Rattle.lanes.specs.Sizes.{size_fits}
use Rattle.lanes.specs.Queues.{IsBlank}
use Rattle.grid.specs.declared.make.MakeError.{MakeError}
use Rattle.grid.specs.declared.make.MakeError.TheVariants.{Refused, OutOfMemory}
use Rattle.grid.specs.declared.tables.Tables.{Tables}
use Rattle.grid.specs.Views.{streams_in}

-- what declines the making of a grid
abbrev pub making_refusal : ℕ → ℕ → ℕ → Option Refusal
making_refusal lanes depth capacity =
    first_of (cond (size_fits lanes depth) None (Some GridSize) ∷ (cond (nat_lt 0 capacity) None (Some ZeroAmount) ∷ []))

-- Tables of so many links and lanes, a depth and a capacity, with no stream and no item.
pub record BlankTables (links lanes depth capacity : ℕ) (t : Tables) : Type 0 where
  pub has_links : t.lanes.size.links ≡ links
  pub has_lanes : t.lanes.size.lanes ≡ lanes
  pub has_depth : t.lanes.size.depth ≡ depth
  pub has_capacity : t.capacity ≡ capacity
  pub no_stream : (n : ℕ) → streams_in t n ≡ None
  pub no_item : IsBlank t.lanes

-- why no grid is made: what declines it, or else want of memory
abbrev pub NotMade : ℕ → ℕ → ℕ → MakeError → Type 0
NotMade lanes depth capacity (Refused r) = making_refusal lanes depth capacity ≡ Some r
NotMade lanes depth capacity OutOfMemory = making_refusal lanes depth capacity ≡ None
