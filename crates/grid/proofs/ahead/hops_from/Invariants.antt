use Rattle.std.proofs.Common.{◌≡◌, length, drop}
use Rattle.model.specs.Grid.{hops_from}
use Rattle.grid.proofs.ahead.hops_from.Given as goal

-- the link is behind the hops passed
abbrev pub invariant-loop-hop : goal.invariant-loop-hop
invariant-loop-hop l = (hops_from l.link (drop l.hop-index l.hops) ≡ hops_from l.link l.hops) × (l.left ≡ length (drop l.hop-index l.hops))
