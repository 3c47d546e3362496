use Rattle.std.proofs.Common.{◌≡◌, drop}
use Rattle.routes.specs.Routes.{uses}
use Rattle.routes.proofs.stream.uses_link.Given as goal

-- what is left uses the link exactly if all does
abbrev pub invariant-loop-hop : goal.invariant-loop-hop
invariant-loop-hop l = uses l.link (drop l.hop-index l.hops) ≡ uses l.link l.hops
