-- What a rehearsal comes to.
use Rattle.std.specs.Prelude.{◌≡◌, ℕ, ◌+◌, ◌*◌, ◌<◌, ◌≤◌, Bool, true, if◌then◌else◌, ◌&&◌, List, [], ◌∷◌, length, fold, All, Some, None, Ok, Err, Option, Result, ◌==◌, slice_index_or}
use Rattle.std.specs.Option.{option_map}
use Rattle.layouts.specs.declared.ways.Ways as ways
use Rattle.policies.specs.declared.policy.Policy as policies
use Rattle.refusals.specs.declared.refusal.Refusal.{Refusal}
use Rattle.refusals.specs.declared.refusal.Refusal.TheVariants.{TooFewSlots, ItemsOnGrid}
use Rattle.routes.specs.Firsts.{first_of}
use Rattle.routes.specs.Routes.{OpenStream}
use Rattle.routes.specs.Loads.{stream_count}
use Rattle.search.specs.Finds.{SameBeyond}
use Rattle.model.specs.Grid.{Streams, Setting, Queue, Grid as GridInWords}
use Rattle.model.specs.Kinds.{Kind}
use Rattle.model.specs.Calls.{sends}
use Rattle.model.specs.Runs.{History, let_in_from, handed_out_from, steps_gone_from}
use Rattle.model.specs.Law.{Goes, NoLaneWillStep}
use Rattle.model.specs.Sums.{of_stream}
use Rattle.lanes.specs.declared.strip.Strip.{Strip}
use Rattle.grid.specs.declared.grid.Grid.{Grid}
use Rattle.grid.specs.declared.tables.Tables.{Tables}
use Rattle.grid.specs.Grids.{kind_of, tables_of}
use Rattle.grid.specs.InTurn.{InTurn}
use Rattle.grid.specs.Makes.{Same}
use Rattle.grid.specs.Sweeps.{Workspace, setting_in, grid_in, lane_count_in, items_in, suffices}
use Rattle.grid.specs.Views.{streams_in, setting, view}
use Rattle.plan.specs.Plans.{open_streams}
use Rattle.plan.specs.Summaries.{hop_count}
use Rattle.rehearsal.specs.declared.tally.Tally.{Tally}
use Rattle.rehearsal.specs.declared.rehearse.Rehearsal.{Rehearsal}
use Rattle.rehearsal.specs.Strips.{is_strip, are_rows, counted}
use Rattle.rehearsal.specs.Acts.{AreActs, gone}

-- ---- the report

-- the tally of stream n by its strips that were let in, and those that came out
abbrev pub tally_of : ℕ → List Strip → List Strip → Tally
tally_of n let_in out = record { sent = length let_in; out = counted (length out); in_order = are_rows n 0 out }

-- the tally of a number
abbrev pub tally_at : Rehearsal → ℕ → Option Tally
tally_at r n = slice_index_or r.tallies n None

-- A report counts what was let in and what came out, with the numbers of the streams, and how many steps went, where these streams are open.
pub record Counts (streams : Streams) (let_in out : Queue Strip) (went : ℕ) (r : Rehearsal) : Type 0 where
  pub steps : r.steps ≡ counted went
  pub items : r.items ≡ counted (length out)
  pub tallies : (n : ℕ) → n < stream_count → tally_at r n ≡ option_map (λ _. tally_of n (of_stream n let_in) (of_stream n out)) (streams n)

-- It reports the acts made from a grid on, of a rehearsal of so many strips: no stream has let in more, and it counts what the acts come to.
pub record Reports (S : Setting) (g : GridInWords Strip) (strips : ℕ) (acts : History Strip) (r : Rehearsal) : Type 0 where
  pub are_acts : AreActs S g acts
  pub few : (n : ℕ) → length (of_stream n (let_in_from S g acts)) ≤ strips
  pub counts : Counts g.streams (let_in_from S g acts) (handed_out_from S g acts) (steps_gone_from S g acts) r

-- the tally of stream n once a strip came out too, of this stream or another
abbrev pub taken : ℕ → Tally → ℕ × Strip → Tally
taken n tally i =
    if i.0 == n then record { sent = tally.sent; out = counted (tally.out + 1); in_order = tally.in_order && is_strip n tally.out i.1 } else tally

-- Strips came out, and each is taken into the tally of its stream. A strip's row has 16 bits.
pub record Takes (out : Queue Strip) (before after : List (Option Tally)) : Type 0 where
  pub rows : All (λ i. i.1.row < 65536) out
  pub tallies : (n : ℕ) → n < stream_count
      → slice_index_or after n None ≡ option_map (λ tally. fold (taken n) tally out) (slice_index_or before n None)

-- so many steps that went are counted, and strips that came out
pub record CountsMore (went : ℕ) (out : Queue Strip) (r r' : Rehearsal) : Type 0 where
  pub steps : r'.steps ≡ counted (r.steps + went)
  pub items : r'.items ≡ counted (r.items + length out)
  pub ahead : r'.ahead ≡ r.ahead
  pub takes : Takes out r.tallies r'.tallies

-- ---- a moment of a rehearsal

-- the report so far, and the grid with its slots
pub record Moment : Type 0 where
  pub report : Rehearsal
  pub kind : Kind
  pub tables : Tables
  pub slots : List Strip

abbrev pub moment : {W P : Type 0} {w : ways.Ghosts W} {p : policies.Ghosts P W} → Rehearsal → Grid W P w p → List Strip → Moment
moment r g slots = record { report = r; kind = kind_of g; tables = tables_of g; slots = slots }

abbrev pub moment_in : Rehearsal → Workspace Strip → Moment
moment_in r w = record { report = r; kind = w.kind; tables = w.tables; slots = w.slots }

-- the setting of the grid, and the grid in words
abbrev pub setting_at : Moment → Setting
setting_at now = setting now.kind now.tables (length now.slots)

abbrev pub grid_at : Moment → GridInWords Strip
grid_at now = view now.tables now.slots

-- a stream sends no strip: it has sent all of them, or the next one would not be let in
abbrev pub SendsNone : ℕ → Moment → ℕ → Type 0
SendsNone strips now n =
    (tally : Tally) → tally_at now.report n ≡ Some tally → tally.sent < strips → (x : Strip) → Goes (setting_at now) (grid_at now) (sends n x) → ⊥

abbrev pub NoneSends : ℕ → Moment → Type 0
NoneSends strips now = (n : ℕ) → n < stream_count → SendsNone strips now n

-- no lane will step, and no stream sends a strip
pub record Rests (strips : ℕ) (now : Moment) : Type 0 where
  pub no_step : NoLaneWillStep (setting_at now) (grid_at now)
  pub no_send : NoneSends strips now

-- all is as it was
pub record Idle (before after : Moment) : Type 0 where
  pub report : after.report ≡ before.report
  pub tables : Same before.tables after.tables
  pub kind : after.kind ≡ before.kind
  pub slots : after.slots ≡ before.slots

-- ---- how it goes on

-- So a rehearsal stands that was begun on a grid: acts were made one after another, and they are reported.
pub record Stands (strips : ℕ) (begun : Workspace Strip) (now : Moment) : Type 0 where
  pub acts : History Strip
  pub kind : now.kind ≡ begun.kind
  pub in_turn : InTurn begun.kind begun.tables begun.slots acts now.tables now.slots
  pub reports : Reports (setting_in begun) (grid_in begun) strips acts now.report

-- it stands so, and of the acts so many went at least
pub record StandsAfter (strips : ℕ) (begun : Workspace Strip) (count : ℕ) (now : Moment) : Type 0 where
  pub stands : Stands strips begun now
  pub many : count ≤ gone (setting_in begun) (grid_in begun) stands.acts

-- A rehearsal goes on: wherever it was begun, it still stands, and one act more went if it says so; what was known ahead stays.
pub record GoesOn (strips : ℕ) (went : Bool) (before after : Moment) : Type 0 where
  pub stands : (begun : Workspace Strip) (count : ℕ) → StandsAfter strips begun count before
      → StandsAfter strips begun (if went then count + 1 else count) after
  pub ahead : after.report.ahead ≡ before.report.ahead

-- ---- what it comes to

-- Every open stream let in all its strips, and all of them came out, in order; and as many steps went as were known ahead.
pub record Completes (streams : Streams) (strips : ℕ) (r : Rehearsal) : Type 0 where
  pub all : (n : ℕ) (s : OpenStream) → n < stream_count → streams n ≡ Some s → tally_at r n ≡ Some (record { sent = strips; out = strips; in_order = true })
  pub steps : r.steps ≡ r.ahead

-- behind one entry for each lane of each link, the two lent tables are as before
pub record SameBehind (before after : Workspace Strip) : Type 0 where
  pub streams : SameBeyond (lane_count_in before) before.streams after.streams
  pub items : SameBeyond (lane_count_in before) before.items after.items

-- A rehearsal of so many strips is made of acts, one after another, as many as it takes until nothing goes any more, and reports what they come to; and it
-- completes. Which stream sends first, and how often before the lanes step, is left open, and so is what stands at the front of the lent tables then.
pub record Rehearses (strips : ℕ) (before : Workspace Strip) (r : Rehearsal) (after : Workspace Strip) : Type 0 where
  pub stands : Stands strips before (moment_in r after)
  pub ahead : r.ahead ≡ counted (strips * hop_count (open_streams (streams_in before.tables)))
  pub ends : Rests strips (moment_in r after)
  pub completes : Completes (streams_in before.tables) strips r
  pub behind : SameBehind before after

-- what declines a rehearsal: too little that is lent, or items on the grid
abbrev pub rehearsal_refusal : Workspace Strip → Option Refusal
rehearsal_refusal w =
    let too_few : Option Refusal = if suffices (lane_count_in w) w then None else Some TooFewSlots in
    let in_use : Option Refusal = if items_in w == 0 then None else Some ItemsOnGrid in
    first_of (too_few ∷ (in_use ∷ []))

-- a rehearsal is made where nothing declines it; else all is as it was
abbrev pub MayRehearse : ℕ → Workspace Strip → Result Rehearsal Refusal → Workspace Strip → Type 0
MayRehearse strips before (Ok r) after = (rehearsal_refusal before ≡ None) × Rehearses strips before r after
MayRehearse strips before (Err e) after = (rehearsal_refusal before ≡ Some e) × (after ≡ before)
