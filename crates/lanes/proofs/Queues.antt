-- What one lane's change does to the queues of all lanes.
use Rattle.std.proofs.Common.{◌≡◌, ℕ, suc, ◌+◌, ◌-◌, ◌*◌, ◌%◌, ◌<◌, ◌≤◌, ◌≢◌, List, [], ◌∷◌, ◌++◌, length, get_or, drop, set, vec_items, sym, ap, ◌∙◌, subst, ⊎_elim, mul-le-mul_right, mod-lt, suc-mul, add-one, arith, get_or-set_other, get_or-set_same}
use native.Mathlib.Nat.{mod-add-mod}
use Rattle.std.proofs.lemmas.Nat.{mul-add-lt}
use Rattle.std.proofs.lemmas.List.{get_or_default, drop_at}
use Rattle.std.proofs.lemmas.Bool.{cases_lt}
use Rattle.lanes.specs.declared.ring.Ring.{Ring}
use Rattle.model.specs.Grid.{Queue}
use Rattle.lanes.specs.Rings.{Fits, empty_ring, next_place, here, around}
use Rattle.lanes.specs.declared.tables.Lanes.{Lanes}
use Rattle.lanes.specs.Sizes.{lane_count, slot_count}
use Rattle.lanes.specs.Queues.{cells, ring_at, queue_at, place_at, HasLane}
use Rattle.lanes.proofs.RingPlaces.{here-set_same, here-set_other, length-here, around_same, length-around, around_front, turns_apart}
use Rattle.lanes.proofs.Cells.{cells-set, length-cells, here-cells}

-- the places of different lanes are different
pub slots_apart : (depth j k s t : ℕ) → j ≢ k → s < depth → t < depth → j * depth + s ≢ k * depth + t
slots_apart depth j k s t ne hs ht e =
    ⊎_elim
    (λ (lt : j < k). let m = mul-le-mul_right depth lt in let n = suc-mul j depth in omega arith)
    (λ (le : k ≤ j). let lt : k < j = omega arith in let m = mul-le-mul_right depth lt in let n = suc-mul k depth in omega arith)
    (cases_lt j k)

pub slot_in : (l : Lanes) (k t : ℕ) → k < lane_count l.size → t < l.size.depth → k * l.size.depth + t < slot_count l.size
slot_in l k t hk ht = let m = mul-add-lt k l.size.depth t (lane_count l.size) hk ht in omega arith

pub length-items : {T : Type 0} (l : Lanes) (xs : List T) → slot_count l.size ≤ length xs
    → length (cells (vec_items l.owners) xs) ≡ slot_count l.size
length-items l xs enough =
    let n = length-cells (vec_items l.owners) xs (omega (arith, l.owners.ok.0, l.long)) in omega (arith, l.owners.ok.0, l.long)

pub queue_length : {T : Type 0} (l : Lanes) (xs : List T) (k : ℕ) → slot_count l.size ≤ length xs → k < lane_count l.size
    → length (queue_at l xs k) ≡ (ring_at l k).count
queue_length l xs k enough hk =
    let depth = l.size.depth in
    let m = slot_in l k (depth - 1) hk (omega (arith, l.size.deep.0)) in
    length-around (cells (vec_items l.owners) xs) (k * depth) depth (ring_at l k).first (ring_at l k).count l.size.deep.0
    (omega (arith, length-items l xs enough, l.size.deep.0))

-- A lane that is there, with slots enough, and its ring.
module _ {T : Type 0} {l : Lanes} {xs : List T} {k : ℕ} {r : Ring} (lane : HasLane l xs k) (is : r ≡ get_or (vec_items l.rings) k r) where
  abbrev depth : ℕ
  depth = l.size.depth

  abbrev owners : List ℕ
  owners = vec_items l.owners

  abbrev rings : List Ring
  rings = vec_items l.rings

  abbrev items : Queue T
  items = cells owners xs

  -- the queue of lane j, by its cells and its ring
  abbrev queue : Queue T → List Ring → ℕ → Queue T
  queue cs rs j = around cs (j * depth) depth (get_or rs j empty_ring).first (get_or rs j empty_ring).count

  there : k < length rings
  there = omega (arith, l.rings.ok.0, l.wide, lane.there)

  pub ring_is : ring_at l k ≡ r
  ring_is = get_or_default rings k empty_ring r there ∙ sym is

  ring_fits : Fits depth r
  ring_fits = subst (Fits depth) (sym is) (l.fit k r there)

  -- the slot of the next item, and that of the front
  pub back_in : k * depth + next_place depth r < slot_count l.size
  back_in = slot_in l k (next_place depth r) lane.there (mod-lt (r.first + r.count) l.size.deep.0)

  pub front_in : k * depth + r.first < slot_count l.size
  front_in = slot_in l k r.first lane.there ring_fits.0

  -- an item at the back of lane k
  module _ (n : ℕ) (x : T) (room : (ring_at l k).count < depth) where
    abbrev grown : Ring
    grown = record { first = r.first; count = r.count + 1 }

    abbrev slot : ℕ
    slot = k * depth + next_place depth r

    abbrev items' : Queue T
    items' = cells (set owners slot n) (set xs slot x)

    has_room : r.count < depth
    has_room = rw ring_is at room

    pub entered_queue : queue items' (set rings k grown) k ≡ queue_at l xs k ++ ((n, x) ∷ [])
    entered_queue =
        let before = around_same items (set items slot (n, x)) (k * depth) depth r.first r.count
        (λ j l. let ne = turns_apart r.first j r.count depth l (omega (arith, has_room)) in
        here-set_other items slot (k * depth + (r.first + j) % depth) (n, x) (λ e. ne (omega arith))) in
        let last = here-set_same items slot (n, x) (omega (arith, length-items l xs lane.enough, back_in)) in
        rw (cells-set owners xs slot n x, get_or-set_same rings k grown empty_ring there, ring_is, add-one r.count, before, last)

    pub entered_place : next_place depth (get_or (set rings k grown) k empty_ring) ≡ (place_at l k + 1) % depth
    entered_place =
        rw (get_or-set_same rings k grown empty_ring there, ring_is, mod-add-mod (r.first + r.count) depth 1)
        (ap (λ i. i % depth) (omega arith))

    pub entered_others : (j : ℕ) → j ≢ k
        → (queue items' (set rings k grown) j ≡ queue_at l xs j) × (next_place depth (get_or (set rings k grown) j empty_ring) ≡ place_at l j)
    entered_others j ne =
        let same = get_or-set_other rings k j grown empty_ring ne in
        let elsewhere = around_same items (set items slot (n, x)) (j * depth) depth (ring_at l j).first (ring_at l j).count
        (λ i below. here-set_other items slot (j * depth + ((ring_at l j).first + i) % depth) (n, x)
        (slots_apart depth j k (((ring_at l j).first + i) % depth) (next_place depth r) ne
        (mod-lt ((ring_at l j).first + i) l.size.deep.0) (mod-lt (r.first + r.count) l.size.deep.0))) in
        (rw (cells-set owners xs slot n x, same, elsewhere), ap (next_place depth) same)

    pub entered_slots : set xs slot x ≡ set xs (k * depth + place_at l k) x
    entered_slots = rw ring_is

  -- the front of lane k, and what is left without it
  module _ (some : 0 < (ring_at l k).count) where
    abbrev shrunk : Ring
    shrunk = record { first = (r.first + 1) % depth; count = r.count - 1 }

    has_some : 0 < r.count
    has_some = rw ring_is at some

    front_and_rest : queue_at l xs k ≡ here items (k * depth + r.first) ++ queue items (set rings k shrunk) k
    front_and_rest =
        let more : r.count ≡ suc (r.count - 1) = omega (arith, has_some) in
        rw (ring_is, get_or-set_same rings k shrunk empty_ring there)
        (ap (around items (k * depth) depth r.first) more ∙ around_front items (k * depth) depth r.first (r.count - 1) ring_fits.0)

    rest_is : drop 1 (queue_at l xs k) ≡ queue items (set rings k shrunk) k
    rest_is =
        ap (drop 1) front_and_rest
        ∙ drop_at (here items (k * depth + r.first)) _ 1 (length-here items (k * depth + r.first) (omega (arith, length-items l xs lane.enough, front_in)))

    pub front_is : (n : ℕ) (x : T) → n ≡ get_or owners (k * depth + r.first) n → x ≡ get_or xs (k * depth + r.first) x
        → queue_at l xs k ≡ (n, x) ∷ drop 1 (queue_at l xs k)
    front_is n x owner item =
        let one = here-cells owners xs (k * depth + r.first) n x (omega (arith, front_in, l.owners.ok.0, l.long)) (omega (arith, front_in, lane.enough)) owner item in
        rw rest_is (front_and_rest ∙ ap (λ f. f ++ queue items (set rings k shrunk) k) one)

    pub left_queue : (front : ℕ × T) → queue_at l xs k ≡ front ∷ drop 1 (queue_at l xs k) → queue_at l xs k ≡ front ∷ queue items (set rings k shrunk) k
    left_queue front first = first ∙ ap (λ rest. front ∷ rest) rest_is

    pub left_place : next_place depth (get_or (set rings k shrunk) k empty_ring) ≡ place_at l k
    left_place =
        rw (get_or-set_same rings k shrunk empty_ring there, ring_is, mod-add-mod (r.first + 1) depth (r.count - 1))
        (ap (λ i. i % depth) (omega (arith, has_some)))

    pub left_others : (j : ℕ) → j ≢ k
        → (queue items (set rings k shrunk) j ≡ queue_at l xs j) × (next_place depth (get_or (set rings k shrunk) j empty_ring) ≡ place_at l j)
    left_others j ne =
        let same = get_or-set_other rings k j shrunk empty_ring ne in
        (rw same, ap (next_place depth) same)
