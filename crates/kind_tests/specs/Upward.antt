-- The kind of grid on which streams go upward.
use Rattle.std.specs.Prelude.{ℕ, ◌+◌, ◌-◌, Bool, not, ◌&&◌, List, [], ◌∷◌, ◌++◌, map, length, Option, ◌==◌, nat_le, nat_lt}
use Rattle.refusals.specs.declared.refusal.Refusal.{Refusal}
use Rattle.refusals.specs.declared.refusal.Refusal.TheVariants.{HopCount, OffGrid, WrongStart, NoTurn, LaneTooLow, WrongEnd, OverCapacity}
use Rattle.layouts.specs.Layout.{Topology}
use Rattle.routes.specs.declared.declined.Declined.{Declined}
use Rattle.routes.specs.declared.hop.Hop.{Hop}
use Rattle.routes.specs.declared.judge.Limits.{Limits}
use Rattle.routes.specs.declared.stream.Request.{Request}
use Rattle.routes.specs.Firsts.{first_of, first_below}
use Rattle.routes.specs.Routes.{count_fits, hop_at, is_on_grid, streams_of}
use Rattle.routes.specs.Loads.{load}
use Rattle.routes.specs.Checks.{unless, at_hop, field_checks}
use Rattle.model.specs.Grid.{Streams}
use Rattle.model.specs.Kinds.{Kind}
use Rattle.kind_tests.specs.declared.check.Check.{Check}
use Rattle.kind_tests.specs.declared.check.Check.TheVariants.{OnGrid, Start, Joint, Number, End, Capacity}

-- What a route is judged by: the ways, how many lanes a link has, what it can bear, and the load of each link.
pub record Terms : Type 0 where
  pub ways : Topology
  pub lanes : ℕ
  pub capacity : ℕ
  pub load : ℕ → ℕ

abbrev pub terms_on : Topology → ℕ → ℕ → Streams → Terms
terms_on w lanes capacity streams = record { ways = w; lanes = lanes; capacity = capacity; load = load streams }

abbrev pub terms_of : Topology → Limits → Terms
terms_of w limits = terms_on w limits.lanes limits.capacity (streams_of limits.streams.now)

-- whether hop k fails a check
abbrev pub fails : Terms → Request → List Hop → Check → ℕ → Bool
fails t q hops OnGrid k = not (is_on_grid t.ways.links t.lanes (hop_at hops k))
fails t q hops Start k = k == 0 && not (t.ways.start (hop_at hops k).link == q.source)
fails t q hops Joint k = nat_lt 0 k && not (t.ways.end (hop_at hops (k - 1)).link == t.ways.start (hop_at hops k).link)
fails t q hops Number k = nat_lt 0 k && nat_le (hop_at hops k).link (hop_at hops (k - 1)).link
fails t q hops End k = k + 1 == length hops && not (t.ways.end (hop_at hops k).link == q.target)
fails t q hops Capacity k = nat_lt t.capacity (t.load (hop_at hops k).link + q.demand)

-- the refusal of each check
abbrev pub refusal_of : Check → Refusal
refusal_of OnGrid = OffGrid
refusal_of Start = WrongStart
refusal_of Joint = NoTurn
refusal_of Number = LaneTooLow
refusal_of End = WrongEnd
refusal_of Capacity = OverCapacity

-- the checks that go through the route, in their order
abbrev pub hop_checks : List Check
hop_checks = OnGrid ∷ (Start ∷ (Joint ∷ (Number ∷ (End ∷ (Capacity ∷ [])))))

-- a check of the whole route tells the first hop that fails it
abbrev pub hop_check : Terms → Request → List Hop → Check → Option Declined
hop_check t q hops c = at_hop (refusal_of c) (first_below (length hops) (fails t q hops c))

-- what is asked of a route
abbrev pub route_checks : Terms → Request → List Hop → List (Option Declined)
route_checks t q hops = unless (count_fits hops) HopCount ∷ map (hop_check t q hops) hop_checks

-- the first check that declines a stream of these fields and hops, if any does
unfoldable pub judgement : Terms → Request → List Hop → Option Declined
judgement t q hops = first_of (field_checks t.ways.tiles q ++ route_checks t q hops)

abbrev pub upward : Topology → Kind
upward w = record {
  tiles = w.tiles;
  links = w.links;
  judge = λ lanes capacity streams. judgement (terms_on w lanes capacity streams);
}
