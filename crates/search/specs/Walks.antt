-- Walks: hops that lead on from the source, where a link may stand twice. A walk is a list of hops, the latest first.
use Rattle.std.specs.Prelude.{◌≡◌, ℕ, zero, suc, ◌*◌, ◌/◌, ◌%◌, ◌<◌, ◌≤◌, true, cond, List, [], ◌∷◌, length, is_some, Some, None, Option, ◌≢◌, nat_le, nat_lt, slice_index_or}
use Rattle.std.specs.Option.{unwrap_or}
use Rattle.layouts.specs.Layout.{Meaning}
use Rattle.layouts.specs.declared.turn.Turn.TheVariants.{Never, Climb}
use Rattle.routes.specs.declared.hop.Hop.{Hop}
use Rattle.routes.specs.declared.stream.Request.{Request}
use Rattle.routes.specs.declared.route.Route.{Route}
use Rattle.routes.specs.Routes.{hops_of, hop_on, hop_at}
use Rattle.routes.specs.Checks.{Terms}
use Rattle.search.specs.declared.prepared.Prepared.{Prepared}
use Rattle.search.specs.Scales.{Scale}
use Rattle.search.specs.Best.{load_with}

-- What a search goes by: the layout, how many lanes a link has, what each link bears with the demand added, if it can, and from
-- where to where.
pub record Problem : Type 0 where
  pub layout : Meaning
  pub lanes : ℕ
  pub costs : ℕ → Option ℕ
  pub source : ℕ
  pub target : ℕ

-- a load, unless it passes the capacity
abbrev pub borne : ℕ → ℕ → Option ℕ
borne capacity load = cond (nat_le load capacity) (Some load) None

-- what a link that is there bears with the demand added
abbrev pub cost_of : Terms → Request → ℕ → Option ℕ
cost_of t q link = cond (nat_lt link t.layout.links) (borne t.capacity (load_with t q link)) None

abbrev pub problem : Meaning → ℕ → (ℕ → Option ℕ) → Request → Problem
problem m lanes costs q = record { layout = m; lanes = lanes; costs = costs; source = q.source; target = q.target }

abbrev pub problem_of : Terms → Request → Problem
problem_of t q = problem t.layout t.lanes (cost_of t q) q

-- the problem as the tables of a search tell it
abbrev pub problem_in : Meaning → Prepared → Problem
problem_in m p = problem m p.lanes (λ link. slice_index_or p.costs link None) p.request

-- A place is a lane of a link, counted over all links.
abbrev pub places : Problem → ℕ
places P = P.layout.links * P.lanes

abbrev pub hop_of : Problem → ℕ → Hop
hop_of P place = hop_on (place / P.lanes) (place % P.lanes)

-- The link and the lane of a hop are there, and the link bears the demand.
pub record Usable (P : Problem) (h : Hop) : Type 0 where
  pub link : h.link < P.layout.links
  pub lane : h.lane < P.lanes
  pub bears : is_some (P.costs h.link) ≡ true

-- A route may go from hop g to hop h.
pub record Follows (m : Meaning) (g h : Hop) : Type 0 where
  pub turns : m.turn g.link h.link ≢ Never
  pub keeps_lane : g.lane ≤ h.lane
  pub climbs : m.turn g.link h.link ≡ Climb → g.lane < h.lane

abbrev pub Walk : Problem → List Hop → Type 0
Walk P [] = ⊥
Walk P (h ∷ []) = Usable P h × (P.layout.start h.link ≡ P.source)
Walk P (h ∷ (g ∷ walk)) = Usable P h × Follows P.layout g h × Walk P (g ∷ walk)

abbrev pub Arrives : Problem → List Hop → Type 0
Arrives P [] = ⊥
Arrives P (h ∷ walk) = P.layout.end h.link ≡ P.target

-- what a walk measures
abbrev pub value_of : {V : Type 0} → Scale V → Problem → List Hop → V
value_of s P [] = s.start
value_of s P (h ∷ walk) = s.extend (value_of s P walk) (unwrap_or (P.costs h.link) 0)

-- no walk of at most k hops arrives
abbrev pub NoneWithin : Problem → ℕ → Type 0
NoneWithin P k = (walk : List Hop) → Walk P walk → length walk ≤ k → Arrives P walk → ⊥

-- the first n hops of a route, the latest first
abbrev pub back : (ℕ → Hop) → ℕ → List Hop
back route zero = []
back route (suc n) = route n ∷ back route n

-- A walk that arrives with the fewest hops, and among those of least measure.
pub record BestWalk {V : Type 0} (s : Scale V) (P : Problem) (walk : List Hop) : Type 0 where
  pub is : Walk P walk
  pub arrives : Arrives P walk
  pub few : length walk ≤ 24
  pub fewest : (other : List Hop) → Walk P other → Arrives P other → length walk ≤ length other
  pub least : (other : List Hop) → Walk P other → Arrives P other → length other ≡ length walk → s.not_above (value_of s P walk) (value_of s P other) ≡ true

-- the route of a best walk, or none where no walk of at most 24 hops arrives
abbrev pub FindsWalk : {V : Type 0} → Scale V → Problem → Option Route → Type 0
FindsWalk s P None = NoneWithin P 24
FindsWalk s P (Some route) = BestWalk s P (back (hop_at (hops_of route)) (length (hops_of route)))
