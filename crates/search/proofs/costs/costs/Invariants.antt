use Rattle.std.proofs.Common.{◌≡◌, ◌+◌, length}
use Rattle.routes.specs.Routes.{streams_of}
use Rattle.routes.specs.Loads.{load}
use Rattle.search.specs.Walks.{borne}
use Rattle.search.proofs.CostTables.{FilledTo}
use Rattle.search.proofs.costs.costs.Given as goal

-- the costs so far
abbrev pub invariant-loop-link : goal.invariant-loop-link
invariant-loop-link g l =
    (length l.costs ≡ 256)
    × FilledTo (λ link. borne l.limits.capacity (load (streams_of l.limits.streams.now) link + l.request.demand)) l.link l.costs
