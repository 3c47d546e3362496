-- Routes that lie on the grid.
use Rattle.std.specs.Prelude.{◌≡◌, ℕ, true, List, Some, None, Option, slice_index_or}
use Rattle.std.specs.List.{list_all}
use Rattle.routes.specs.declared.stream.Stream.{Stream}
use Rattle.routes.specs.Routes.{hops_of}
use Rattle.lanes.specs.declared.size.Size.{Size}
use Rattle.lanes.specs.Sizes.{holds}

-- the links and the lanes of all open streams are there
abbrev pub Placed : Size → List (Option Stream) → Type 0
Placed size table = (n : ℕ) (s : Stream) → slice_index_or table n None ≡ Some s → list_all (holds size) (hops_of s.route) ≡ true
