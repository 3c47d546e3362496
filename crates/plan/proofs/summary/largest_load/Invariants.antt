use Rattle.std.proofs.Common.{◌≡◌}
use Rattle.routes.specs.Routes.{streams_of}
use Rattle.routes.specs.Loads.{load}
use Rattle.plan.specs.Summaries.{largest_below}
use Rattle.plan.proofs.summary.largest_load.Given as goal

-- the largest load of the links passed
abbrev pub invariant-loop-link : goal.invariant-loop-link
invariant-loop-link l = l.largest ≡ largest_below l.link (load (streams_of l.streams))
