-- What a route measures, and which routes are best.
use Rattle.std.specs.Prelude.{◌≡◌, ℕ, ◌+◌, ◌≤◌, true, List, [], ◌∷◌, length}
use Rattle.routes.specs.declared.hop.Hop.{Hop}
use Rattle.routes.specs.declared.stream.Request.{Request}
use Rattle.routes.specs.Checks.{Terms}
use Rattle.routes.specs.Acceptable.{Acceptable}
use Rattle.search.specs.Scales.{Scale}

-- a value that each hop in turn extends by the load of its link
abbrev pub extended : {V : Type 0} → Scale V → (ℕ → ℕ) → V → List Hop → V
extended s load v [] = v
extended s load v (h ∷ hops) = extended s load (s.extend v (load h.link)) hops

-- what a link bears with the new demand added
abbrev pub load_with : Terms → Request → ℕ → ℕ
load_with t q link = t.load link + q.demand

-- what a route measures
abbrev pub measured : {V : Type 0} → Scale V → Terms → Request → List Hop → V
measured s t q hops = extended s (load_with t q) s.start hops

-- An acceptable route with the fewest hops, and among those of least measure.
pub record Best {V : Type 0} (s : Scale V) (t : Terms) (q : Request) (hops : List Hop) : Type 0 where
  pub acceptable : Acceptable t q hops
  pub fewest : (other : List Hop) → Acceptable t q other → length hops ≤ length other
  pub least : (other : List Hop) → Acceptable t q other → length other ≡ length hops → s.not_above (measured s t q hops) (measured s t q other) ≡ true

-- no route is acceptable
abbrev pub NoneAcceptable : Terms → Request → Type 0
NoneAcceptable t q = (hops : List Hop) → Acceptable t q hops → ⊥
