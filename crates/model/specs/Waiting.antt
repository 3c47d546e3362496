-- What waits of a stream on a grid, the next item to leave first.
use Rattle.std.specs.Prelude.{ℕ, List, [], ◌∷◌, ◌++◌}
use Rattle.routes.specs.declared.hop.Hop.{Hop}
use Rattle.model.specs.Grid.{Queue, Grid, route_of}
use Rattle.model.specs.Sums.{of_stream}

-- the lists of the lanes of a route, put together, from its last hop back to its first
abbrev pub along : {T : Type 0} → (ℕ → ℕ → List T) → List Hop → List T
along lists [] = []
along lists (h ∷ hops) = along lists hops ++ lists h.link h.lane

-- the items of one stream, by link and lane
abbrev pub own : {T : Type 0} → ℕ → (ℕ → ℕ → Queue T) → ℕ → ℕ → List T
own n contents link lane = of_stream n (contents link lane)

-- the items of a stream along its route
abbrev pub waiting : {T : Type 0} → ℕ → Grid T → List T
waiting n g = along (own n g.contents) (route_of (g.streams n))
