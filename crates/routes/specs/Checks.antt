-- The judgement of a route: the checks in their order, and the hop at which each is first failed.
use Rattle.std.specs.Prelude.{ℕ, ◌+◌, ◌-◌, Bool, true, false, cond, not, ◌&&◌, List, [], ◌∷◌, ◌++◌, map, length, take, Some, None, Ok, Err, Option, Result, ◌==◌, nat_le, nat_lt}
use Rattle.std.specs.Option.{option_map}
use Rattle.refusals.specs.declared.refusal.Refusal.{Refusal}
use Rattle.refusals.specs.declared.refusal.Refusal.TheVariants.{BadEndpoints, ZeroAmount, HopCount, OffGrid, WrongStart, NoTurn, LaneTooLow, WrongEnd, RepeatedLink, OverCapacity}
use Rattle.layouts.specs.Layout.{Meaning}
use Rattle.layouts.specs.declared.turn.Turn.{Turn}
use Rattle.layouts.specs.declared.turn.Turn.TheVariants.{Never, Free, Climb}
use Rattle.routes.specs.declared.check.Check.{Check}
use Rattle.routes.specs.declared.check.Check.TheVariants.{OnGrid, Start, Turn as TurnCheck, Lane, End, Once, Capacity}
use Rattle.routes.specs.declared.declined.Declined.{Declined}
use Rattle.routes.specs.declared.hop.Hop.{Hop}
use Rattle.routes.specs.declared.judge.Limits.{Limits}
use Rattle.routes.specs.declared.judge.TableLimits.{TableLimits}
use Rattle.routes.specs.declared.stream.Request.{Request}
use Rattle.routes.specs.Firsts.{first_of, first_below}
use Rattle.routes.specs.Routes.{OpenStream, count_fits, hop_at, is_on_grid, streams_of, uses}
use Rattle.routes.specs.Loads.{load}

-- What a route is judged by: the layout, how many lanes a link has, what it can bear, and the load of each link.
pub record Terms : Type 0 where
  pub layout : Meaning
  pub lanes : ℕ
  pub capacity : ℕ
  pub load : ℕ → ℕ

-- with so many lanes to a link, one capacity, and the load of each link by the open streams
abbrev pub terms_on : Meaning → ℕ → ℕ → (ℕ → Option OpenStream) → Terms
terms_on m lanes capacity streams = record { layout = m; lanes = lanes; capacity = capacity; load = load streams }

abbrev pub terms_of : Meaning → Limits → Terms
terms_of m limits = terms_on m limits.lanes limits.capacity (streams_of limits.streams.now)

-- the same by a table of any length
abbrev pub table_terms : Meaning → TableLimits → Terms
table_terms m limits = terms_on m limits.lanes limits.capacity (streams_of limits.streams.now)

-- a refusal that tells no hop
abbrev pub no_hop : Refusal → Declined
no_hop refusal = record { refusal = refusal; hop = None }

-- a check that is not passed declines
abbrev pub unless : Bool → Refusal → Option Declined
unless passed refusal = cond passed None (Some (no_hop refusal))

-- a refusal at the hop that was found, if one was
abbrev pub at_hop : Refusal → Option ℕ → Option Declined
at_hop refusal hop = option_map (λ k. record { refusal = refusal; hop = Some k }) hop

-- what is asked of the fields of a stream on ways of so many tiles
abbrev pub field_checks : ℕ → Request → List (Option Declined)
field_checks tiles q =
    unless (nat_lt q.source tiles && (nat_lt q.target tiles && not (q.source == q.target))) BadEndpoints
    ∷ (unless (nat_lt 0 q.demand) ZeroAmount ∷ [])

-- the turn is *never*
abbrev pub never : Turn → Bool
never Never = true
never Free = false
never Climb = false

-- the lanes that a route may take one after the other
abbrev pub lanes_fit : Turn → ℕ → ℕ → Bool
lanes_fit Never from to = nat_le from to
lanes_fit Free from to = nat_le from to
lanes_fit Climb from to = nat_lt from to

-- the turn from the hop before hop k to hop k
abbrev pub turn_into : Terms → List Hop → ℕ → Turn
turn_into t hops k = t.layout.turn (hop_at hops (k - 1)).link (hop_at hops k).link

-- Whether hop k fails a check. Of two hops in turn the second fails, of links that stand twice the later one.
abbrev pub fails : Terms → Request → List Hop → Check → ℕ → Bool
fails t q hops OnGrid k = not (is_on_grid t.layout.links t.lanes (hop_at hops k))
fails t q hops Start k = k == 0 && not (t.layout.start (hop_at hops k).link == q.source)
fails t q hops TurnCheck k = nat_lt 0 k && never (turn_into t hops k)
fails t q hops Lane k = nat_lt 0 k && not (lanes_fit (turn_into t hops k) (hop_at hops (k - 1)).lane (hop_at hops k).lane)
fails t q hops End k = k + 1 == length hops && not (t.layout.end (hop_at hops k).link == q.target)
fails t q hops Once k = uses (hop_at hops k).link (take k hops)
fails t q hops Capacity k = nat_lt t.capacity (t.load (hop_at hops k).link + q.demand)

-- the refusal of each check
abbrev pub refusal_of : Check → Refusal
refusal_of OnGrid = OffGrid
refusal_of Start = WrongStart
refusal_of TurnCheck = NoTurn
refusal_of Lane = LaneTooLow
refusal_of End = WrongEnd
refusal_of Once = RepeatedLink
refusal_of Capacity = OverCapacity

-- the checks that go through the route, in their order
abbrev pub hop_checks : List Check
hop_checks = OnGrid ∷ (Start ∷ (TurnCheck ∷ (Lane ∷ (End ∷ (Once ∷ (Capacity ∷ []))))))

-- a check of the whole route tells the first hop that fails it
abbrev pub hop_check : Terms → Request → List Hop → Check → Option Declined
hop_check t q hops c = at_hop (refusal_of c) (first_below (length hops) (fails t q hops c))

-- what is asked of a route
abbrev pub route_checks : Terms → Request → List Hop → List (Option Declined)
route_checks t q hops = unless (count_fits hops) HopCount ∷ map (hop_check t q hops) hop_checks

-- the first check that declines a stream of these fields and hops, if any does
unfoldable pub judgement : Terms → Request → List Hop → Option Declined
judgement t q hops = first_of (field_checks t.layout.tiles q ++ route_checks t q hops)

-- the answer of a call that a check may decline
abbrev pub verdict : Option Declined → Result (Unit {0}) Declined
verdict None = Ok tt
verdict (Some d) = Err d
