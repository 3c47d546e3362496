use Rattle.layouts.specs.Layout.{meaning_by}
use Rattle.std.proofs.Common.{}
use Rattle.search.specs.Walks.{problem_in}
use Rattle.search.specs.Rows.{marks_in, values_in, Arrival, Least}
use Rattle.search.proofs.search.Search.arrival.Given as goal

-- the best place so far
abbrev pub invariant-loop-place : goal.invariant-loop-place
invariant-loop-place g l =
    let P = problem_in (meaning_by g.L.Ways.topology g.L.Rules.turns l.self.layout.now) l.self.prepared in
    let s = g.M.Measure.scale l.self.measure.now in
    Least s (values_in s l.values) (Arrival P (marks_in P l.marks) l.k l.place) l.best
