-- The open streams of every grid by rules.
use Rattle.std.specs.Prelude.{◌≡◌, ℕ, ◌≤◌, Some, None}
use Rattle.layouts.specs.Layout.{Meaning}
use Rattle.routes.specs.Routes.{OpenStream}
use Rattle.routes.specs.Loads.{load}
use Rattle.routes.specs.Checks.{terms_on}
use Rattle.routes.specs.Acceptable.{Acceptable}
use Rattle.model.specs.Grid.{Streams}

-- Each open stream has a route that it could take on an unloaded grid, and no link bears more than the capacity.
pub record Sound (m : Meaning) (lanes capacity : ℕ) (streams : Streams) : Type 0 where
  pub routes : (n : ℕ) (s : OpenStream) → streams n ≡ Some s
      → Acceptable (terms_on m lanes capacity (λ _. None)) s.request s.hops
  pub loads : (link : ℕ) → load streams link ≤ capacity
