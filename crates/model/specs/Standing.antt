-- Where the items of a grid stand.
use Rattle.std.specs.Prelude.{◌≡◌, ℕ, Bool, true, false, ◌&&◌, ◌||◌, List, [], ◌∷◌, ◌==◌}
use Rattle.std.specs.List.{list_all}
use Rattle.routes.specs.declared.hop.Hop.{Hop}
use Rattle.model.specs.Grid.{Grid, route_of}

-- a route takes a lane of a link
abbrev pub takes : List Hop → ℕ → ℕ → Bool
takes [] link lane = false
takes (h ∷ hops) link lane = (h.link == link && h.lane == lane) || takes hops link lane

-- Each item that a lane contains is of an open stream whose route takes that lane.
abbrev pub AllStand : {T : Type 0} → Grid T → Type 0
AllStand g = (link lane : ℕ) → list_all (λ i. takes (route_of (g.streams i.0)) link lane) (g.contents link lane) ≡ true
