-- What an acceptable route is.
use Rattle.std.specs.Prelude.{◌≡◌, ℕ, ◌+◌, ◌<◌, ◌≤◌, List, length, Result, MatchResult, ◌≢◌}
use Rattle.layouts.specs.declared.turn.Turn.TheVariants.{Never, Climb}
use Rattle.routes.specs.declared.declined.Declined.{Declined}
use Rattle.routes.specs.declared.hop.Hop.{Hop}
use Rattle.routes.specs.declared.stream.Request.{Request}
use Rattle.routes.specs.Routes.{hop_at}
use Rattle.routes.specs.Checks.{Terms, judgement, verdict}

-- A stream of these fields may take these hops, counted from 0: it goes between two tiles and asks for something; all
-- links and lanes are there; it starts at the source and ends at the target; each turn is one of the layout's; the lane
-- never falls, and rises at every climb; no link stands twice; each link bears the demand on top of its load.
pub record Acceptable (t : Terms) (q : Request) (hops : List Hop) : Type 0 where
  pub source : q.source < t.layout.tiles
  pub target : q.target < t.layout.tiles
  pub two_tiles : q.source ≡ q.target → ⊥
  pub demand : 1 ≤ q.demand
  pub count : (1 ≤ length hops) × (length hops ≤ 24)
  pub on_grid : (k : ℕ) → k < length hops → ((hop_at hops k).link < t.layout.links) × ((hop_at hops k).lane < t.lanes)
  pub starts : t.layout.start (hop_at hops 0).link ≡ q.source
  pub turns : (k : ℕ) → k + 1 < length hops → t.layout.turn (hop_at hops k).link (hop_at hops (k + 1)).link ≢ Never
  pub keeps_lane : (k : ℕ) → k + 1 < length hops → (hop_at hops k).lane ≤ (hop_at hops (k + 1)).lane
  pub climbs : (k : ℕ) → k + 1 < length hops → t.layout.turn (hop_at hops k).link (hop_at hops (k + 1)).link ≡ Climb → (hop_at hops k).lane < (hop_at hops (k + 1)).lane
  pub ends : (k : ℕ) → k + 1 ≡ length hops → t.layout.end (hop_at hops k).link ≡ q.target
  pub once : (j k : ℕ) → j < k → k < length hops → (hop_at hops j).link ≢ (hop_at hops k).link
  pub bears : (k : ℕ) → k < length hops → t.load (hop_at hops k).link + q.demand ≤ t.capacity

-- An answer judges a stream: it tells the first refusal, or none exactly if the route is acceptable.
pub record Judges (t : Terms) (q : Request) (hops : List Hop) (r : Result (Unit {0}) Declined) : Type 0 where
  pub answer : r ≡ verdict (judgement t q hops)
  pub meets : MatchResult r (λ _. Acceptable t q hops) (λ _. Acceptable t q hops → ⊥)
