use Rattle.layouts.specs.Layout.{meaning_by}
use Rattle.search.specs.Walks.{problem_in}
use Rattle.search.proofs.Filling.{Filled}
use Rattle.search.proofs.search.Search.round.Given as goal

-- the places so far
abbrev pub invariant-loop-place : goal.invariant-loop-place
invariant-loop-place g l =
    Filled (g.M.Measure.scale l.self.measure.now) (problem_in (meaning_by g.L.Ways.topology g.L.Rules.turns l.self.layout.now) l.self.prepared) l.marks l.values l.k l.place
