use Rattle.layouts.specs.Layout.{meaning_by}
use Rattle.std.proofs.Common.{refl}
use Rattle.search.proofs.Chaining.{chains_none}
use Rattle.search.proofs.incoming.Incoming.of.Goals as goal

pub loop-link-init : goal.loop-link-init
loop-link-init g c = (refl, refl, chains_none (meaning_by g.L.Ways.topology g.L.Rules.turns c.args.layout.now))
