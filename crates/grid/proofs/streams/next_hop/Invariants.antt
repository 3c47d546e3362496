use Rattle.std.proofs.Common.{◌≡◌, cond, drop}
use Rattle.model.specs.Grid.{next_hop}
use Rattle.model.specs.Slots.{first_hop}
use Rattle.grid.proofs.streams.next_hop.Given as goal

-- what is left tells the hop, as the first of it once the link has been reached
abbrev pub invariant-loop-hop : goal.invariant-loop-hop
invariant-loop-hop l = cond l.reached (first_hop (drop l.hop-index l.hops)) (next_hop l.link (drop l.hop-index l.hops)) ≡ next_hop l.link l.hops
