-- What a kind of grid owes, that its plans can be loaded again.
use Rattle.std.specs.Prelude.{◌≡◌, ℕ, ◌<◌, ◌≤◌, List, Some, None, nat_lt, if◌then◌else◌}
use Rattle.routes.specs.declared.hop.Hop.{Hop}
use Rattle.routes.specs.declared.stream.Request.{Request}
use Rattle.routes.specs.Loads.{stream_count, load}
use Rattle.routes.specs.Routes.{OpenStream}
use Rattle.model.specs.Grid.{Streams}
use Rattle.model.specs.Kinds.{Kind}
use Rattle.model.specs.Safe.{Reached}

-- the streams of numbers below n
abbrev pub streams_below : ℕ → Streams → Streams
streams_below n streams k = if nat_lt k n then streams k else None

-- What is let in goes from tile to tile. Whatever open streams openings and closings lead to, no link bears more than the capacity;
-- and they can be opened again in rising number: nothing declines one while those of lower numbers are open.
pub record Reopens (k : Kind) (lanes capacity : ℕ) : Type 0 where
  pub tiles : (streams : Streams) (q : Request) (hops : List Hop) → k.judge lanes capacity streams q hops ≡ None
      → (q.source < k.tiles) × (q.target < k.tiles)
  pub bears : (streams : Streams) → Reached (k.judge lanes capacity) streams → (link : ℕ) → load streams link ≤ capacity
  pub again : (streams : Streams) → Reached (k.judge lanes capacity) streams → (n : ℕ) (s : OpenStream)
      → streams n ≡ Some s → n < stream_count → k.judge lanes capacity (streams_below n streams) s.request s.hops ≡ None
