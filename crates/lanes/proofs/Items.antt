-- Which items a lane contains, and how many, in all and of one stream.
use Rattle.std.proofs.Common.{◌≡◌, ℕ, ◌+◌, ◌-◌, ◌*◌, ◌%◌, ◌<◌, ◌≤◌, cond, length, take, ◌==◌, get_or, vec_items, Some, None, sym, refl, ap, ◌∙◌, mod-lt, add-one, arith}
use Rattle.std.specs.List.{count_by, slice_get}
use Rattle.std.proofs.Math.Seq.{take-suc}
use Rattle.std.proofs.lemmas.List.{length-replicate}
use Rattle.std.proofs.lemmas.List.Sums.{sum_by-append}
use Rattle.std.proofs.lemmas.Option.{slice_get_past, slice_get_within, slice_get-get_or, get_or_from_slice_get}
use Rattle.lanes.specs.declared.ring.Ring.{Ring}
use Rattle.lanes.specs.declared.tables.Lanes.{Lanes}
use Rattle.lanes.specs.Sizes.{lane_count, slot_count}
use Rattle.lanes.specs.Queues.{cells, alike_slots, ring_at, outline_at, HasLane}
use Rattle.lanes.proofs.Queues.{slot_in, queue_length, length-items, ring_is}
use Rattle.lanes.proofs.RingPlaces.{around_at}
use Rattle.lanes.proofs.Cells.{here-cells}

-- how many of the first items of lane k are a stream's
abbrev pub count_to : Lanes → ℕ → ℕ → ℕ → ℕ
count_to l k stream n = count_by (λ i. i.0 == stream) (take n (outline_at l k))

module _ (l : Lanes) (k : ℕ) (there : k < lane_count l.size) where
  lane : HasLane l (alike_slots l.size) k
  lane = record { there = there; enough = omega (arith, length-replicate {A = Unit {0}} (slot_count l.size) tt) }

  pub outline_length : length (outline_at l k) ≡ (ring_at l k).count
  outline_length = queue_length l (alike_slots l.size) k lane.enough there

  module _ (r : Ring) (is : r ≡ get_or (vec_items l.rings) k r) where
    pub count_is : r.count ≡ length (outline_at l k)
    count_is = sym (outline_length ∙ ap (λ ring. ring.count) (ring_is lane is))

    -- an item, by the slot that it stands in
    pub item_is : (behind owner : ℕ) → behind < (ring_at l k).count
        → owner ≡ get_or (vec_items l.owners) (k * l.size.depth + (r.first + behind) % l.size.depth) owner
        → slice_get (outline_at l k) behind ≡ Some (owner, tt)
    item_is behind owner some stands =
        let depth = l.size.depth in
        let ring = ring_at l k in
        let items = cells (vec_items l.owners) (alike_slots l.size) in
        let low = slot_in l k ((ring.first + behind) % depth) there (mod-lt (ring.first + behind) l.size.deep.0) in
        let last = slot_in l k (depth - 1) there (omega (arith, l.size.deep.0)) in
        let all = length-items l (alike_slots l.size) lane.enough in
        let slot =
        here-cells (vec_items l.owners) (alike_slots l.size) (k * depth + (ring.first + behind) % depth) owner tt
        (omega (arith, low, l.owners.ok.0, l.long)) (omega (arith, low, lane.enough)) (rw (ring_is lane is) stands) refl in
        let item = around_at items (k * depth) depth ring.first ring.count behind (owner, tt) l.size.deep.0 (omega (arith, all, last, l.size.deep.0)) some slot in
        slice_get-get_or (outline_at l k) behind (owner, tt) (omega (arith, some, outline_length)) ∙ ap Some item

    pub none_past : (behind : ℕ) → r.count ≤ behind → slice_get (outline_at l k) behind ≡ None
    none_past behind past = slice_get_past (outline_at l k) behind (omega (arith, past, count_is))

pub count_more : (l : Lanes) (k stream behind owner : ℕ) → slice_get (outline_at l k) behind ≡ Some (owner, tt)
    → count_to l k stream (behind + 1) ≡ count_to l k stream behind + cond (owner == stream) 1 0
count_more l k stream behind owner is =
    let queue = outline_at l k in
    rw (add-one behind, take-suc queue behind (owner, tt) (slice_get_within queue behind (owner, tt) is), get_or_from_slice_get queue behind (owner, tt) (owner, tt) is)
    (simp sum_by-append (omega arith))
