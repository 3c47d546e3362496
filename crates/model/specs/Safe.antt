-- What a kind of grid owes, that its items never lock.
use Rattle.std.specs.Prelude.{◌≡◌, ℕ, ◌<◌, true, false, List, [], ◌∷◌, is_some, Some, None}
use Rattle.std.specs.List.{AllByRecursion, list_all}
use Rattle.routes.specs.declared.hop.Hop.{Hop}
use Rattle.routes.specs.declared.stream.Request.{Request}
use Rattle.routes.specs.Loads.{stream_count}
use Rattle.routes.specs.Routes.{count_fits, is_on_grid, uses}
use Rattle.model.specs.Grid.{Streams, Judge, Setting, assign, route_of}

abbrev pub OnGrid : Setting → Hop → Type 0
OnGrid S h = (h.link < S.links) × (h.lane < S.lanes)

-- no link stands twice
abbrev pub Apart : List Hop → Type 0
Apart [] = Unit {0}
Apart (h ∷ hops) = (uses h.link hops ≡ false) × Apart hops

-- A proper route takes links and lanes of the grid, and no link twice. One of no hops is proper too.
pub record Proper (S : Setting) (hops : List Hop) : Type 0 where
  pub on_grid : AllByRecursion (OnGrid S) hops
  pub apart : Apart hops

-- a rank rises along a route if it rises from each hop to the next
abbrev pub Rises : (Hop → ℕ) → List Hop → Type 0
Rises rank [] = Unit {0}
Rises rank (h ∷ []) = Unit {0}
Rises rank (h ∷ (next ∷ hops)) = (rank h < rank next) × Rises rank (next ∷ hops)

-- Open streams to which openings and closings lead, from none on, where each opening passes the judgement.
pub data Reached (judge : Judge) : Streams → Type 0 where
  none_open : Reached judge (λ _. None)
  after_opening : {streams : Streams} (n : ℕ) (q : Request) (hops : List Hop) → Reached judge streams
      → n < stream_count → is_some (streams n) ≡ false → judge streams q hops ≡ None
      → Reached judge (assign streams n (Some (record { request = q; hops = hops })))
  after_closing : {streams : Streams} (n : ℕ) → n < stream_count → Reached judge streams
      → Reached judge (assign streams n None)

-- a route that is taken has 1 to 24 hops, and they are there
pub record Takes (S : Setting) (hops : List Hop) : Type 0 where
  pub count : count_fits hops ≡ true
  pub there : list_all (is_on_grid S.links S.lanes) hops ≡ true

-- whatever open streams openings and closings lead to, each route is proper
abbrev pub AllProper : Setting → Type 0
AllProper S = (streams : Streams) → Reached S.judge streams → (n : ℕ) → Proper S (route_of (streams n))

-- and some rank of the hops rises along all of them
abbrev pub AllRanked : Setting → Type 0
AllRanked S = (streams : Streams) → Reached S.judge streams → (rank : Hop → ℕ) × ((n : ℕ) → Rises rank (route_of (streams n)))

-- A grid never locks if that is so.
pub record NeverLocks (S : Setting) : Type 0 where
  pub proper : AllProper S
  pub ranked : AllRanked S

-- A grid is safe if what its judgement lets in is a route that is taken, and if it never locks.
pub record Safe (S : Setting) : Type 0 where
  pub takes : (streams : Streams) (q : Request) (hops : List Hop) → S.judge streams q hops ≡ None → Takes S hops
  pub proper : AllProper S
  pub ranked : AllRanked S

-- the part of that which the law of every run rests on
abbrev pub never_locks : {S : Setting} → Safe S → NeverLocks S
never_locks safe = record { proper = safe.proper; ranked = safe.ranked }
