-- The ring keeps the law of ways, by a test of every link.
use Rattle.std.specs.Prelude.{ℕ, Bool, not, ◌&&◌, nat_lt, refl}
use Rattle.std.proofs.Common.{ap, arith}
use Rattle.std.proofs.lemmas.Bool.{and_parts, not-false, ltb-true}
use Rattle.std.proofs.lemmas.Option.{slice_get_past}
use Rattle.layouts.specs.Layout.{WaysLaw, NoTiles}
use Rattle.routes.proofs.Firsts.{none_below}
use Rattle.kind_tests.specs.declared.ring.TheConstants.{STRETCHES}
use Rattle.kind_tests.specs.Ring.{start_of, end_of, topology_of_ring}

-- a link leads from or to what is no tile
abbrev strays : ℕ → Bool
strays link = not (nat_lt (topology_of_ring.start link) 4 && nat_lt (topology_of_ring.end link) 4)

pub ring_ways : WaysLaw topology_of_ring
ring_ways = record {
  sized = record { some_tiles = omega arith; most_tiles = omega arith; some_links = omega arith; most_links = omega arith };
  joins = λ link low.
      let both = and_parts _ _ (not-false _ (none_below strays 5 refl link low)) in
      (ltb-true _ _ both.0, ltb-true _ _ both.1);
}

pub ring_no_tiles : NoTiles topology_of_ring
ring_no_tiles = record {
  no_start = λ link past. ap start_of (slice_get_past STRETCHES link past);
  no_end = λ link past. ap end_of (slice_get_past STRETCHES link past);
}
