-- What is lent to the calls of a run.
use Rattle.std.specs.Prelude.{◌≡◌, ℕ, List, length, map}
use Rattle.model.specs.Grid.{Queue}
use Rattle.grid.specs.Sweeps.{over}
use Rattle.runs.specs.declared.lent.Lent.{Lent}

-- The slices are those that were lent, and as long.
pub record SameSlices {T V : Type 0} (before after : Lent T V) : Type 0 where
  pub slots : after.slots.ghost_name ≡ before.slots.ghost_name
  pub values : after.values.ghost_name ≡ before.values.ghost_name
  pub marks : after.marks.ghost_name ≡ before.marks.ghost_name
  pub streams : after.streams.ghost_name ≡ before.streams.ghost_name
  pub items : after.items.ghost_name ≡ before.items.ghost_name
  pub slot_count : length after.slots.now ≡ length before.slots.now
  pub value_count : length after.values.now ≡ length before.values.now
  pub mark_count : length after.marks.now ≡ length before.marks.now
  pub stream_count : length after.streams.now ≡ length before.streams.now
  pub item_count : length after.items.now ≡ length before.items.now

-- The two tables for what comes out by sweeps: the streams, and the items.
pub record OutTables (T : Type 0) : Type 0 where
  pub streams : List ℕ
  pub items : List T

abbrev pub out_tables : {T V : Type 0} → Lent T V → OutTables T
out_tables lent = record { streams = lent.streams.now; items = lent.items.now }

-- with what came out at their front, in order, each item with its stream, and the entries behind it as before
abbrev pub with_out : {T : Type 0} → Queue T → OutTables T → OutTables T
with_out out tables =
    record { streams = over (map (λ i. i.0) out) tables.streams; items = over (map (λ i. i.1) out) tables.items }
