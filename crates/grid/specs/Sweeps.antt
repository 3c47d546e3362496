-- What a sweep does, and what several do.
use Rattle.std.specs.Prelude.{◌≡◌, ℕ, ◌+◌, ◌*◌, ◌<◌, ◌≤◌, Bool, true, false, if◌then◌else◌, ◌&&◌, List, [], ◌∷◌, ◌++◌, length, map, drop, slice_set, Ok, Err, Result, nat_le}
use Rattle.layouts.specs.declared.ways.Ways as ways
use Rattle.policies.specs.declared.policy.Policy as policies
use Rattle.refusals.specs.declared.refusal.Refusal.{Refusal}
use Rattle.refusals.specs.declared.refusal.Refusal.TheVariants.{TooFewSlots}
use Rattle.model.specs.Kinds.{Kind}
use Rattle.model.specs.Grid.{Setting, Queue, Grid as GridInWords, enough_slots}
use Rattle.model.specs.Sums.{item_count, hops_ahead}
use Rattle.model.specs.Calls.{Answer}
use Rattle.model.specs.Runs.{History, handed_out_from, steps_gone_from, is_declined, leaving}
use Rattle.model.specs.Sweeps.{sweep_of}
use Rattle.grid.specs.declared.grid.Grid.{Grid}
use Rattle.grid.specs.declared.sweep.Sweep.{Sweep}
use Rattle.grid.specs.declared.tables.Tables.{Tables}
use Rattle.grid.specs.Views.{view, setting}
use Rattle.grid.specs.Grids.{kind_of, tables_of}
use Rattle.grid.specs.InTurn.{InTurn}

-- slots for all lanes are lent, and two tables of at least so many entries
abbrev pub enough_for : Setting → ℕ → ℕ → ℕ → Bool
enough_for S entries streams items = enough_slots S && (nat_le entries streams && nat_le entries items)

-- ---- what a sweep works on

-- The kind and the tables of a grid, with what is lent: the item slots, and two tables for what comes out, the streams and the items.
pub record Workspace (T : Type 0) : Type 0 where
  pub kind : Kind
  pub tables : Tables
  pub slots : List T
  pub streams : List ℕ
  pub items : List T

abbrev pub workspace : {W P T : Type 0} {w : ways.Ghosts W} {p : policies.Ghosts P W} → Grid W P w p → List T → List ℕ → List T → Workspace T
workspace g slots streams items = record { kind = kind_of g; tables = tables_of g; slots = slots; streams = streams; items = items }

module _ {T : Type 0} where
  -- the setting of its grid, and the grid in words
  abbrev pub setting_in : Workspace T → Setting
  setting_in w = setting w.kind w.tables (length w.slots)

  abbrev pub grid_in : Workspace T → GridInWords T
  grid_in w = view w.tables w.slots

  -- how many lanes there are, and how many items and hops ahead
  abbrev pub lane_count_in : Workspace T → ℕ
  lane_count_in w = (setting_in w).links * (setting_in w).lanes

  abbrev pub items_in : Workspace T → ℕ
  items_in w = item_count (setting_in w) (grid_in w)

  abbrev pub ahead_in : Workspace T → ℕ
  ahead_in w = hops_ahead (setting_in w) (grid_in w)

  -- there are slots for all lanes, and so many entries in each of the two tables
  abbrev pub suffices : ℕ → Workspace T → Bool
  suffices entries w = enough_for (setting_in w) entries (length w.streams) (length w.items)

  -- what comes out by calls, and how many of their steps go
  abbrev pub out_by : Workspace T → History T → Queue T
  out_by w calls = handed_out_from (setting_in w) (grid_in w) calls

  abbrev pub gone_by : Workspace T → History T → ℕ
  gone_by w calls = steps_gone_from (setting_in w) (grid_in w) calls

-- a table with a list at its front, and the rest as before
abbrev pub over : {A : Type 0} → List A → List A → List A
over list table = list ++ drop (length list) table

-- What came out stands at the front of both tables, in order, each item with its stream; the entries behind it are as before.
pub record Writes {T : Type 0} (out : Queue T) (before after : Workspace T) : Type 0 where
  pub streams : after.streams ≡ over (map (λ i. i.0) out) before.streams
  pub items : after.items ≡ over (map (λ i. i.1) out) before.items

-- The calls are made in turn, on a grid that stays of its kind, and what comes out by them is written.
pub record Works {T : Type 0} (calls : History T) (before after : Workspace T) : Type 0 where
  pub kind : after.kind ≡ before.kind
  pub in_turn : InTurn before.kind before.tables before.slots calls after.tables after.slots
  pub writes : Writes (out_by before calls) before after

-- What is lent does not suffice, and nothing changes.
pub record TooFew {T : Type 0} (entries : ℕ) (before : Workspace T) (refusal : Refusal) (after : Workspace T) : Type 0 where
  pub cause : suffices entries before ≡ false
  pub told : refusal ≡ TooFewSlots
  pub unchanged : after ≡ before

-- ---- a sweep

-- A sweep is a step on every lane once, in turn, and tells how many went and how many items came out; these are at most one for each lane. Begun
-- with an item on the grid, it has a step that goes; and the hops ahead fall by the steps that go.
pub record Swept {T : Type 0} (before : Workspace T) (told : Sweep) (after : Workspace T) : Type 0 where
  pub enough : suffices (lane_count_in before) before ≡ true
  pub works : Works (sweep_of (setting_in before)) before after
  pub steps : told.steps ≡ gone_by before (sweep_of (setting_in before))
  pub items : told.items ≡ length (out_by before (sweep_of (setting_in before)))
  pub few : told.items ≤ told.steps
  pub most : told.steps ≤ lane_count_in before
  pub progress : 0 < items_in before → 0 < told.steps
  pub hops : ahead_in after + told.steps ≡ ahead_in before

abbrev pub Sweeps : {T : Type 0} → Workspace T → Result Sweep Refusal → Workspace T → Type 0
Sweeps before (Ok told) after = Swept before told after
Sweeps before (Err refusal) after = TooFew (lane_count_in before) before refusal after

-- ---- counting

-- a table with a list from an entry on
abbrev pub set_from : {A : Type 0} → ℕ → List A → List A → List A
set_from k [] table = table
set_from k (x ∷ list) table = set_from (k + 1) list (slice_set table k x)

-- The answer to a step is counted, and an item that came out is written behind those that came out before.
pub record Counts {T : Type 0} (a : Answer T) (told : Sweep) (streams : List ℕ) (items : List T) (told' : Sweep) (streams' : List ℕ)
    (items' : List T) : Type 0 where
  pub steps : told'.steps ≡ told.steps + (if is_declined a then 0 else 1)
  pub count : told'.items ≡ told.items + length (leaving a)
  pub streams_set : streams' ≡ set_from told.items (map (λ i. i.0) (leaving a)) streams
  pub items_set : items' ≡ set_from told.items (map (λ i. i.1) (leaving a)) items
