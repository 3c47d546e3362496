use Rattle.layouts.specs.Layout.{meaning_by}
use Rattle.search.specs.Walks.{problem_in}
use Rattle.search.specs.Rows.{marks_in}
use Rattle.search.proofs.Tracing.{Traced}
use Rattle.search.proofs.search.Search.trace.Given as goal

-- the hops so far
abbrev pub invariant-loop-row : goal.invariant-loop-row
invariant-loop-row g l =
    let P = problem_in (meaning_by g.L.Ways.topology g.L.Rules.turns l.self.layout.now) l.self.prepared in
    Traced P (marks_in P l.marks) l.k l.place l.row l.at l.table

abbrev pub decreases-loop-row : goal.decreases-loop-row
decreases-loop-row g l = l.row
