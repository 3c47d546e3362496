-- Hops, routes and streams.
use Rattle.std.specs.Prelude.{ℕ, Bool, ◌&&◌, List, length, take, None, Option, ◌==◌, nat_le, nat_lt, slice_index_or}
use Rattle.std.specs.List.{list_any}
use Rattle.std.specs.Option.{option_map}
use Rattle.routes.specs.declared.hop.Hop.{Hop}
use Rattle.routes.specs.declared.route.Route.{Route}
use Rattle.routes.specs.declared.stream.Request.{Request}
use Rattle.routes.specs.declared.stream.Stream.{Stream}

-- the hops of a route
abbrev pub hops_of : Route → List Hop
hops_of r = take r.count r.table

-- a route has 1 to 24 hops
abbrev pub count_fits : List Hop → Bool
count_fits hops = nat_lt 0 (length hops) && nat_le (length hops) 24

-- a link with a lane
abbrev pub hop_on : ℕ → ℕ → Hop
hop_on link lane = record { link = link; lane = lane }

-- a link has 1 to 4 lanes
abbrev pub lanes_allowed : ℕ → Bool
lanes_allowed lanes = nat_le 1 lanes && nat_le lanes 4

-- a lane is 1 to 8 items deep
abbrev pub depth_allowed : ℕ → Bool
depth_allowed depth = nat_le 1 depth && nat_le depth 8

-- hop k of a route, counted from 0
abbrev pub hop_at : List Hop → ℕ → Hop
hop_at hops k = slice_index_or hops k (hop_on 0 0)

-- the link and the lane of a hop are there, of so many links and lanes
abbrev pub is_on_grid : ℕ → ℕ → Hop → Bool
is_on_grid links lanes h = nat_lt h.link links && nat_lt h.lane lanes

-- a link stands in a list of hops
abbrev pub uses : ℕ → List Hop → Bool
uses link hops = list_any (λ h. h.link == link) hops

-- an open stream: what it asked for, and the hops of its route
pub record OpenStream : Type 0 where
  pub request : Request
  pub hops : List Hop

abbrev pub stream_of : Stream → OpenStream
stream_of s = record { request = s.request; hops = hops_of s.route }

-- the open streams by number, from a table
abbrev pub streams_of : List (Option Stream) → ℕ → Option OpenStream
streams_of table n = option_map stream_of (slice_index_or table n None)
