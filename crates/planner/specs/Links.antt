-- Links by the tiles that they join.
use Rattle.std.specs.Prelude.{◌≡◌, ℕ}
use Rattle.layouts.specs.Layout.{Meaning}

-- a link leads from one tile to another
abbrev pub Leads : Meaning → ℕ → ℕ → ℕ → Type 0
Leads m from to link = (m.start link ≡ from) × (m.end link ≡ to)
