-- What a sweep writes into the lent tables.
use Rattle.std.proofs.Common.{◌≡◌, ℕ, ◌∷◌, [], List, length, map, take, sym, refl, ap, ◌∙◌, arith}
use Rattle.std.specs.List.{zip}
use Rattle.std.proofs.Math.Seq.{take-append_seam}
use Rattle.std.proofs.lemmas.List.{length-map}
use Rattle.std.proofs.lemmas.Slice.{drop-append-drop}
use Rattle.search.specs.Finds.{SameBeyond}
use Rattle.model.specs.Grid.{Queue}
use Rattle.model.specs.Sweeps.{sweep_of}
use Rattle.lanes.specs.declared.strip.Strip.{Strip}
use Rattle.grid.specs.declared.sweep.Sweep.{Sweep}
use Rattle.grid.specs.Sweeps.{Workspace, setting_in, lane_count_in, out_by, over, Swept}
use Rattle.rehearsal.specs.Rehearsals.{SameBehind}

-- both parts of a list of pairs, side by side
zip_parts : {A B : Type 0} (pairs : List (A × B)) → zip (map (λ i. i.0) pairs) (map (λ i. i.1) pairs) ≡ pairs
zip_parts [] = refl
zip_parts (i ∷ pairs) = ap (λ l. i ∷ l) (zip_parts pairs)

module _ {before after : Workspace Strip} {told : Sweep} (swept : Swept before told after) where
  abbrev came_out : Queue Strip
  came_out = out_by before (sweep_of (setting_in before))

  -- one part of what came out is at the front of its table, and behind one entry for each lane the table is as before
  module _ {A : Type 0} (part : ℕ × Strip → A) (table now : List A) (writes : now ≡ over (map part came_out) table) where
    count : told.items ≡ length (map part came_out)
    count = swept.items ∙ sym (length-map came_out part)

    front : take told.items now ≡ map part came_out
    front = rw (writes, count) (take-append_seam (map part came_out) _)

    behind : SameBeyond (lane_count_in before) table now
    behind =
        rw writes
        (drop-append-drop (length (map part came_out)) table (map part came_out) (lane_count_in before) (omega (arith, count, swept.few, swept.most)) refl)

  pub pairs_out : zip (take told.items after.streams) (take told.items after.items) ≡ came_out
  pairs_out =
      rw (front (λ i. i.0) before.streams after.streams swept.works.writes.streams, front (λ i. i.1) before.items after.items swept.works.writes.items)
      (zip_parts came_out)

  pub same_behind : SameBehind before after
  same_behind = record {
    streams = behind (λ i. i.0) before.streams after.streams swept.works.writes.streams;
    items = behind (λ i. i.1) before.items after.items swept.works.writes.items;
  }
