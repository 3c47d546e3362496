-- Rings: the items of a lane among its places.
use Rattle.std.specs.Prelude.{ℕ, zero, suc, ◌+◌, ◌%◌, ◌<◌, ◌≤◌, List, [], ◌++◌, length, take, drop, slice_index_or}
use Rattle.lanes.specs.declared.ring.Ring.{Ring}

-- a ring of `depth` places begins at one of them, and has no more items than places
abbrev pub Fits : ℕ → Ring → Type 0
Fits depth r = (r.first < depth) × (r.count ≤ depth)

abbrev pub RingsFit : ℕ → List Ring → Type 0
RingsFit depth rings = (k : ℕ) (d : Ring) → k < length rings → Fits depth (slice_index_or rings k d)

-- a ring with no item, whose first item will take the first place
abbrev pub empty_ring : Ring
empty_ring = record { first = 0; count = 0 }

-- the place after the last item of a ring, round the depth
abbrev pub next_place : ℕ → Ring → ℕ
next_place depth r = (r.first + r.count) % depth

-- the entry at index p as a list of one, and none past the end
abbrev pub here : {A : Type 0} → List A → ℕ → List A
here xs p = take 1 (drop p xs)

-- the n entries from place `first` on, round the `depth` places that begin at index `base`
abbrev pub around : {A : Type 0} → List A → ℕ → ℕ → ℕ → ℕ → List A
around xs base depth first zero = []
around xs base depth first (suc n) = around xs base depth first n ++ here xs (base + (first + n) % depth)
