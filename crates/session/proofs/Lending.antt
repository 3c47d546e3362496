-- Calls that are lent slots, and the tables for what comes out.
use Rattle.std.proofs.Common.{◌≡◌, ℕ, ◌*◌, ◌≤◌, true, List, Vec, length, vec_items, ap, Ok, Err, Result, IsOk, refl, sym, ◌∙◌, arith}
use Rattle.std.specs.Vec.{with_items}
use Rattle.std.proofs.lemmas.Bool.{true≢false}
use Rattle.std.proofs.lemmas.List.{with_items_is}
use Rattle.refusals.specs.declared.refusal.Refusal.{Refusal}
use Rattle.model.specs.Kinds.{Kind}
use Rattle.model.specs.Runs.{History}
use Rattle.lanes.specs.Sizes.{lane_count, slot_count}
use Rattle.lanes.specs.declared.strip.Strip.{Strip}
use Rattle.grid.specs.declared.drain.Drain.{Drain}
use Rattle.grid.specs.declared.sweep.Sweep.{Sweep}
use Rattle.grid.specs.declared.tables.Tables.{Tables}
use Rattle.grid.specs.Drains.{entries_in, Drains}
use Rattle.grid.specs.InTurn.{InTurn}
use Rattle.grid.specs.Sweeps.{Workspace, suffices, Sweeps}
use Rattle.grid.proofs.Draining.{entries_told}
use Rattle.grid.proofs.InTurn.{turn_size, turn_capacity}
use Rattle.grid.proofs.Most.{grid_items_fit}
use Rattle.grid.proofs.Sweeping.{enough_lent}
use Rattle.rehearsal.specs.Rehearsals.{MayRehearse}
use Rattle.rehearsal.specs.declared.rehearse.Rehearsal.{Rehearsal}
use Rattle.session.specs.declared.at_hand.GridAtHand.{GridAtHand}
use Rattle.session.specs.Entries.{entry_count}
use Rattle.session.specs.Hands.{GridHand, grid_of, workspace_of}
use Rattle.session.specs.Sessions.{IsComplete}

-- the grid at hand is lent enough
pub complete : (g : GridAtHand) → IsComplete (grid_of g)
complete g = record { links = g.grid.fits; slots = g.all_slots; streams = g.all_streams; items = g.all_items }

-- a vector that is lent keeps its length
pub length_lent : {A Z : Type 0} (v : Vec A Z) (after : List A) → length after ≡ v.len → length (vec_items (with_items v after)) ≡ length after
length_lent v after long = ap length (with_items_is v after long)

-- ---- what such calls keep of the tables of a grid: the sizes and the capacity

pub record KeepsSizes (t t' : Tables) : Type 0 where
  pub size : t'.lanes.size ≡ t.lanes.size
  pub capacity : t'.capacity ≡ t.capacity

turn_keeps : {T : Type 0} (k : Kind) (t : Tables) (xs : List T) {calls : History T} {t' : Tables} {xs' : List T} → InTurn k t xs calls t' xs' → KeepsSizes t t'
turn_keeps k t xs in_turn = record { size = turn_size k t xs in_turn; capacity = turn_capacity k t xs in_turn }

same_keeps : {T : Type 0} {before after : Workspace T} → after ≡ before → KeepsSizes before.tables after.tables
same_keeps same = record { size = ap (λ w. w.tables.lanes.size) same; capacity = ap (λ w. w.tables.capacity) same }

pub sweep_keeps : (before after : Workspace Strip) (r : Result Sweep Refusal) → Sweeps before r after → KeepsSizes before.tables after.tables
sweep_keeps before after (Ok told) swept = turn_keeps before.kind before.tables before.slots swept.works.in_turn
sweep_keeps before after (Err refusal) too_few = same_keeps too_few.unchanged

pub drain_keeps : (before after : Workspace Strip) (r : Result Drain Refusal) → Drains before r after → KeepsSizes before.tables after.tables
drain_keeps before after (Ok told) drained = turn_keeps before.kind before.tables before.slots drained.works.in_turn
drain_keeps before after (Err refusal) too_few = same_keeps too_few.unchanged

pub rehearsal_keeps : (strips : ℕ) (before after : Workspace Strip) (r : Result Rehearsal Refusal) → MayRehearse strips before r after
    → KeepsSizes before.tables after.tables
rehearsal_keeps strips before after (Ok r) rehearsed = turn_keeps before.kind before.tables before.slots rehearsed.1.stands.in_turn
rehearsal_keeps strips before after (Err refusal) declined = same_keeps declined.1

-- ---- a drain is not refused

-- the items on a grid are no more than its slots, so what it is lent suffices
enough_entries : (g : GridHand) → IsComplete g → suffices (entries_in (workspace_of g)) (workspace_of g) ≡ true
enough_entries g lent =
    let w = workspace_of g in
    let s = g.tables.lanes.size in
    let lends : slot_count s ≤ length g.slots = omega (arith, lent.slots) in
    let lanes : g.layout.links * s.lanes ≡ lane_count s = ap (λ links. links * s.lanes) lent.links in
    let few : entries_in w ≤ entry_count s = omega (arith, entries_told w lent.links lends, grid_items_fit g.tables w.kind lent.links 0, lanes) in
    enough_lent w lent.links lends (entries_in w) (omega (arith, lent.streams)) (omega (arith, lent.items))

pub drain_goes : (g : GridHand) (after : Workspace Strip) (r : Result Drain Refusal) → IsComplete g → Drains (workspace_of g) r after → IsOk r
drain_goes g after (Ok told) lent drained = refl
drain_goes g after (Err refusal) lent too_few = absurd (true≢false (sym (enough_entries g lent) ∙ too_few.cause))
