use Rattle.layouts.specs.Layout.{meaning_by}
use Rattle.std.proofs.Common.{◌≡◌, ℕ, suc, ◌≤◌}
use Rattle.std.specs.Option.{option_map_or}
use Rattle.search.specs.Walks.{problem_in}
use Rattle.search.specs.Incoming.{last_below, ends_at}
use Rattle.search.specs.Rows.{marks_in, values_in, Before, Least}
use Rattle.search.proofs.search.Search.before.Given as goal

-- the best place so far, and the next link to look at, which is the last of those that are left
abbrev pub invariant-loop-into : goal.invariant-loop-into
invariant-loop-into g l =
    let P = problem_in (meaning_by g.L.Ways.topology g.L.Rules.turns l.self.layout.now) l.self.prepared in
    let s = g.M.Measure.scale l.self.measure.now in
    (left : ℕ) × (left ≤ P.layout.links) × (l.into ≡ last_below left (ends_at P.layout (P.layout.start l.hop.link)))
    × Least s (values_in s l.values) (Before P (marks_in P l.marks) l.k l.hop left) l.best

abbrev pub decreases-loop-into : goal.decreases-loop-into
decreases-loop-into g l = option_map_or {T = ℕ} {U = ℕ} suc l.into 0
