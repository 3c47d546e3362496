-- The tiles and links of the ring, by its table.
use Rattle.std.specs.Prelude.{ℕ, Some, None, Option, slice_get}
use Rattle.layouts.specs.Layout.{Topology}
use Rattle.kind_tests.specs.declared.ring.TheConstants.{STRETCHES}

-- the two tiles of a link, or 255 where there is no such link
abbrev pub start_of : Option (ℕ × ℕ) → ℕ
start_of None = 255
start_of (Some stretch) = stretch.0

abbrev pub end_of : Option (ℕ × ℕ) → ℕ
end_of None = 255
end_of (Some stretch) = stretch.1

abbrev pub topology_of_ring : Topology
topology_of_ring = record {
  tiles = 4;
  links = 5;
  start = λ link. start_of (slice_get STRETCHES link);
  end = λ link. end_of (slice_get STRETCHES link);
}
