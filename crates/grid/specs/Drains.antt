-- What a drain does.
use Rattle.std.specs.Prelude.{◌≡◌, ℕ, ◌+◌, ◌≤◌, true, length, take, drop, Ok, Err, Result}
use Rattle.refusals.specs.declared.refusal.Refusal.{Refusal}
use Rattle.model.specs.Sums.{of_stream}
use Rattle.model.specs.Waiting.{waiting}
use Rattle.model.specs.Sweeps.{sweeps_of}
use Rattle.grid.specs.declared.drain.Drain.{Drain}
use Rattle.grid.specs.declared.sweep.Sweep.{Sweep}
use Rattle.grid.specs.Sweeps.{Workspace, setting_in, grid_in, lane_count_in, items_in, ahead_in, suffices, out_by, Works, Swept, TooFew}

-- the entries of both tables from one on
abbrev pub behind : {T : Type 0} → ℕ → Workspace T → Workspace T
behind count w = record { kind = w.kind; tables = w.tables; slots = w.slots; streams = drop count w.streams; items = drop count w.items }

-- A sweep that writes from an entry on; those before it are as they were.
pub record SweptBehind {T : Type 0} (count : ℕ) (before : Workspace T) (told : Sweep) (after : Workspace T) : Type 0 where
  pub swept : Swept (behind count before) told (behind count after)
  pub streams : take count after.streams ≡ take count before.streams
  pub items : take count after.items ≡ take count before.items

-- how many entries a drain is lent in each table: one for each item on the grid, and one for each lane
abbrev pub entries_in : {T : Type 0} → Workspace T → ℕ
entries_in w = items_in w + lane_count_in w

-- A drain is some sweeps, one after another, and tells how many, how many of their steps went, and how many items came out. Afterwards no
-- item is on the grid: all came out, those of each stream in order; the steps are the hops that were ahead, and the sweeps no more.
pub record Drained {T : Type 0} (before : Workspace T) (told : Drain) (after : Workspace T) : Type 0 where
  pub enough : suffices (entries_in before) before ≡ true
  pub works : Works (sweeps_of (setting_in before) told.sweeps) before after
  pub empty : items_in after ≡ 0
  pub steps : told.steps ≡ ahead_in before
  pub sweeps : told.sweeps ≤ ahead_in before
  pub items : told.items ≡ length (out_by before (sweeps_of (setting_in before) told.sweeps))
  pub all : told.items ≡ items_in before
  pub in_order : (n : ℕ) → of_stream n (out_by before (sweeps_of (setting_in before) told.sweeps)) ≡ waiting n (grid_in before)

abbrev pub Drains : {T : Type 0} → Workspace T → Result Drain Refusal → Workspace T → Type 0
Drains before (Ok told) after = Drained before told after
Drains before (Err refusal) after = TooFew (entries_in before) before refusal after
