-- What the lanes contain, by their tables and the lent slots.
use Rattle.std.specs.Prelude.{◌≡◌, ℕ, ◌+◌, ◌*◌, ◌%◌, ◌<◌, ◌≤◌, cond, List, [], ◌∷◌, ◌++◌, length, replicate, None, vec_items, ◌≢◌, slice_index_or, slice_set}
use Rattle.std.specs.Simd.Lanes.{zip2}
use Rattle.routes.specs.Routes.{hop_on}
use Rattle.model.specs.Grid.{Queue, Grid}
use Rattle.lanes.specs.declared.tables.Lanes.{Lanes}
use Rattle.lanes.specs.declared.ring.Ring.{Ring}
use Rattle.lanes.specs.declared.size.Size.{Size}
use Rattle.lanes.specs.Sizes.{lane_count, slot_count, holds, lane_of}
use Rattle.lanes.specs.Rings.{empty_ring, next_place, around}

-- each slot's item, with its stream
abbrev pub cells : {T : Type 0} → List ℕ → List T → Queue T
cells owners slots = zip2 (λ n x. (n, x)) owners slots

-- the ring of lane k, counted over all links
abbrev pub ring_at : Lanes → ℕ → Ring
ring_at l k = slice_index_or (vec_items l.rings) k empty_ring

-- the items of lane k, front first
abbrev pub queue_at : {T : Type 0} → Lanes → List T → ℕ → Queue T
queue_at l slots k =
    around (cells (vec_items l.owners) slots) (k * l.size.depth) l.size.depth (ring_at l k).first (ring_at l k).count

-- the place in lane k that its next item takes
abbrev pub place_at : Lanes → ℕ → ℕ
place_at l k = next_place l.size.depth (ring_at l k)

-- a table of all lanes, by link and lane where these are there
abbrev pub by_lane : {A : Type 0} → Size → (ℕ → A) → A → ℕ → ℕ → A
by_lane s entry none link lane = cond (holds s (hop_on link lane)) (entry (lane_of s (hop_on link lane))) none

-- the lanes as a grid on which no stream is open
abbrev pub queues_of : {T : Type 0} → Lanes → List T → Grid T
queues_of l slots = record {
  streams = λ _. None;
  contents = by_lane l.size (queue_at l slots) [];
  places = by_lane l.size (place_at l) 0;
}

-- slots for all lanes, whose items are all alike
abbrev pub alike_slots : Size → List (Unit {0})
alike_slots s = replicate (slot_count s) tt

-- The lanes without their items: which stream each item is of. It is told by the tables alone, whatever the slots hold.
abbrev pub outline_at : Lanes → ℕ → Queue (Unit {0})
outline_at l k = queue_at l (alike_slots l.size) k

abbrev pub outline : Lanes → Grid (Unit {0})
outline l = queues_of l (alike_slots l.size)

-- No lane contains an item, and the next item of each takes the first place.
abbrev pub IsBlank : Lanes → Type 0
IsBlank l = (k : ℕ) → ring_at l k ≡ empty_ring

-- Lane k is there, and so are slots enough for all lanes.
pub record HasLane {T : Type 0} (l : Lanes) (xs : List T) (k : ℕ) : Type 0 where
  pub there : k < lane_count l.size
  pub enough : slot_count l.size ≤ length xs

-- Lane k has taken an item at its back; the item stands in the slot of the lane's next place, and all else is as before.
pub record Enters {T : Type 0} (l : Lanes) (xs : List T) (k : ℕ) (item : ℕ × T) (l' : Lanes) (xs' : List T) : Type 0 where
  pub queue : queue_at l' xs' k ≡ queue_at l xs k ++ (item ∷ [])
  pub place : place_at l' k ≡ (place_at l k + 1) % l.size.depth
  pub others : (j : ℕ) → (j ≢ k) → (queue_at l' xs' j ≡ queue_at l xs j) × (place_at l' j ≡ place_at l j)
  pub slots : xs' ≡ slice_set xs (k * l.size.depth + place_at l k) item.1
  pub size : l'.size ≡ l.size

-- Lane k has lost its front, and all else is as before.
pub record Leaves {T : Type 0} (l : Lanes) (xs : List T) (k : ℕ) (item : ℕ × T) (l' : Lanes) : Type 0 where
  pub queue : queue_at l xs k ≡ item ∷ queue_at l' xs k
  pub place : place_at l' k ≡ place_at l k
  pub others : (j : ℕ) → (j ≢ k) → (queue_at l' xs j ≡ queue_at l xs j) × (place_at l' j ≡ place_at l j)
  pub size : l'.size ≡ l.size
