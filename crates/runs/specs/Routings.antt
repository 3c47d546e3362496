-- How openings come by their routes.
use Rattle.std.specs.Prelude.{◌≡◌, ℕ, Bool, true, false, if◌then◌else◌, List, length, Some, None, Ok, Err, Option, Result, vec_items}
use Rattle.layouts.specs.Layout.{Meaning}
use Rattle.routes.specs.declared.declined.Declined.{Declined}
use Rattle.routes.specs.declared.hop.Hop.{Hop}
use Rattle.routes.specs.declared.stream.Request.{Request}
use Rattle.model.specs.Grid.{Streams, Grid, blank}
use Rattle.model.specs.Calls.{opens, done, open_refusal}
use Rattle.model.specs.Kinds.{Kind, by_rules, on_kind}
use Rattle.search.specs.Scales.{Scale}
use Rattle.search.specs.Seeks.{SeekFinds}
use Rattle.grid.specs.declared.tables.Tables.{Tables}
use Rattle.grid.specs.Views.{streams_in, with_streams}
use Rattle.grid.specs.Makes.{Same, Edits}
use Rattle.codec.specs.declared.head.GridSizes.{GridSizes}
use Rattle.plan.specs.Loads.{sizes_of}
use Rattle.runs.specs.declared.given_or_best.GivenOrBest.{GivenOrBest}
use Rattle.runs.specs.declared.given_or_best.GivenOrBest.TheVariants.{Given, Best}

-- What an opening is asked for: a stream of a number and with these fields, on a grid of these sizes on which these streams are
-- open, with so many values and marks lent to a search.
pub record Asked : Type 0 where
  pub sizes : GridSizes
  pub streams : Streams
  pub stream : ℕ
  pub request : Request
  pub values : ℕ
  pub marks : ℕ

-- How openings come by their routes: whether one searches for its route; and the hops on which it may open its stream, or what
-- declines it.
pub record Finding (R : Type 0) : Type 1 where
  pub searches : R → Bool
  pub finds : R → Asked → Result (List Hop) Declined → Type 0

-- the same, where the ways are part of what it goes by
abbrev pub finding : {R W : Type 0} → (R → Bool) → (R → W → Asked → Result (List Hop) Declined → Type 0) → W → Finding R
finding searches finds ways = record { searches = searches; finds = λ route. finds route ways }

-- what an opening answers: the count of its hops where it searched for them
abbrev pub opening_answer : Bool → Result (List Hop) Declined → Result (Option ℕ) Declined
opening_answer searched (Ok hops) = Ok (if searched then Some (length hops) else None)
opening_answer searched (Err d) = Err d

-- ---- on tables

-- what an opening is asked for on these tables, with these values and marks lent
abbrev pub asked_of : {V : Type 0} → Tables → ℕ → Request → List V → List ℕ → Asked
asked_of t n q values marks = record {
  sizes = sizes_of t;
  streams = streams_in t;
  stream = n;
  request = q;
  values = length values;
  marks = length marks;
}

-- the stream is opened on the hops that were found, or nothing changes
abbrev pub OpensOn : Kind → Tables → Asked → Result (List Hop) Declined → Tables → Type 0
OpensOn k t a (Ok hops) t' = Edits k t (opens a.stream a.request hops) done t'
OpensOn k t a (Err d) t' = Same t t'

-- An opening finds hops, or what declines it; it answers so, and leaves the tables so.
pub record OpensBy (searches : Bool) (Finds : Result (List Hop) Declined → Type 0) (k : Kind) (t : Tables) (a : Asked)
    (r : Result (Option ℕ) Declined) (t' : Tables) : Type 0 where
  pub found : Result (List Hop) Declined
  pub finds : Finds found
  pub answer : r ≡ opening_answer searches found
  pub leaves : OpensOn k t a found t'

-- ---- a given route

-- what declines an opening on these hops, whatever items are on the grid and slots are lent
abbrev pub given_refusal : Kind → Asked → List Hop → Option Declined
given_refusal k a hops =
    let g : Grid (Unit {0}) = with_streams a.streams blank in
    open_refusal (on_kind k a.sizes.lanes a.sizes.depth a.sizes.capacity 0) g a.stream a.request hops

-- these hops, unless they are declined
abbrev pub hops_unless : Option Declined → List Hop → Result (List Hop) Declined
hops_unless None hops = Ok hops
hops_unless (Some d) hops = Err d

-- given hops are found, or else what declines an opening on them
abbrev pub FindsGiven : Kind → List Hop → Asked → Result (List Hop) Declined → Type 0
FindsGiven k hops a found = found ≡ hops_unless (given_refusal k a hops) hops

-- ---- a given route or a best one

abbrev pub is_best : {M : Type 0} → GivenOrBest M → Bool
is_best (Given hops) = false
is_best (Best measure) = true

-- a best route is found as a seek finds it
abbrev pub FindsGivenOrBest : {M V : Type 0} → (M → Scale V) → Meaning → GivenOrBest M → Asked
    → Result (List Hop) Declined → Type 0
FindsGivenOrBest scale m (Given hops) a found = FindsGiven (by_rules m) (vec_items hops) a found
FindsGivenOrBest scale m (Best measure) a found =
    SeekFinds (scale measure) m a.sizes.lanes a.sizes.capacity a.streams a.stream a.request a.values a.marks found
