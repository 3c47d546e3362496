use Rattle.std.proofs.Common.{◌≡◌, ◌-◌}
use Rattle.plan.specs.Loads.{loading_on}
use Rattle.plan.proofs.Loading.{Left}
use Rattle.plan.proofs.load.load.Given as goal

-- what is left gives the whole
abbrev pub invariant-loop-number : goal.invariant-loop-number
invariant-loop-number g l =
    (l.grid.layout ≡ l.fn.grid.layout)
    × Left (g.P.Policy.kind l.fn.grid.layout) l.fn.grid.tables (loading_on (g.P.Policy.kind l.fn.grid.layout) l.fn.grid.tables l.plan)
    l.plan l.grid.tables l.number l.place (l.count - l.number)
