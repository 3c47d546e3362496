use Rattle.std.proofs.Common.{refl}
use Rattle.layouts.specs.Mesh.{meaning_of}
use Rattle.layouts.specs.Law.{mesh_lawful}
use Rattle.model.specs.Kinds.{by_rules}
use Rattle.model.proofs.Ranks.{lawful_safe}
use Rattle.model.proofs.Reopening.{rules_reopen}
use Rattle.plan.proofs.SmallStreams.{lets_in_small, open_small}
use Rattle.session.proofs.OwnPlans.{plan_written, is_put}
use Rattle.session.proofs.at_hand.GridAtHand.plan.Goals as goal

pub unwrap-count-requires : goal.unwrap-count-requires
unwrap-count-requires c =
    let hand = c.args.self.now in
    let t = hand.grid.tables in
    let m = meaning_of hand.grid.layout in
    let law = mesh_lawful hand.grid.layout.rule _ _ hand.grid.layout.size.ok in
    let size = t.lanes.size in
    let small = lets_in_small {kind = by_rules m} law.sized (record { tiles = refl; links = refl }) size.wide.1
    (lawful_safe m law size.lanes size.depth t.capacity 0) (rules_reopen m size.lanes t.capacity) in
    is_put _ _ _ _ (rw (plan_written hand.head t (open_small small hand.grid.reached) hand.allowed hand.fitting) at c.write.ensures.made)
