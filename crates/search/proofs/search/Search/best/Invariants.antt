use Rattle.layouts.specs.Layout.{meaning_by}
use Rattle.std.proofs.Common.{◌≡◌, None}
use Rattle.search.specs.Walks.{problem_in, NoneWithin}
use Rattle.search.specs.Rows.{marks_in, values_in, RowBefore}
use Rattle.search.proofs.search.Search.best.Given as goal

-- no walk has arrived so far, and the rows are told
abbrev pub invariant-rounds : goal.invariant-rounds
invariant-rounds g l =
    let P = problem_in (meaning_by g.L.Ways.topology g.L.Rules.turns l.self.layout.now) l.self.prepared in
    let s = g.M.Measure.scale l.self.measure.now in
    (l.found ≡ None) × NoneWithin P l.k × RowBefore s P (marks_in P l.marks) (values_in s l.values) l.k
