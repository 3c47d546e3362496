use Rattle.layouts.specs.Layout.{meaning_by}
use Rattle.std.proofs.Common.{◌≡◌, length}
use Rattle.search.specs.Incoming.{Chains}
use Rattle.search.proofs.Chaining.{chains}
use Rattle.search.proofs.incoming.Incoming.of.Given as goal

-- the links so far
abbrev pub invariant-loop-link : goal.invariant-loop-link
invariant-loop-link g l = (length l.last ≡ 64) × (length l.previous ≡ 256) × Chains (meaning_by g.L.Ways.topology g.L.Rules.turns l.layout) l.link (chains l.last l.previous)
