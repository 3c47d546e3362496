use Rattle.std.proofs.Common.{ℕ, ◌<◌}
use Rattle.layouts.specs.Mesh.{meaning_of}
use Rattle.planner.specs.Links.{Leads}
use Rattle.planner.proofs.picture.link_between.Given as goal

-- no link so far leads there
abbrev pub invariant-loop-link : goal.invariant-loop-link
invariant-loop-link l = (k : ℕ) → k < l.link → Leads (meaning_of l.shown.grid.now.layout) l.from l.to k → ⊥
