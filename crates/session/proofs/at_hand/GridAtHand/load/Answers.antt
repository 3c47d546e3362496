use Rattle.std.proofs.Common.{ap}
use Rattle.plan.proofs.Loading.{rest_stays}
use Rattle.session.proofs.at_hand.GridAtHand.load.Goals as goal

pub invariant_of-self : goal.invariant_of-self
invariant_of-self c =
    let hand = c.args.self.now in
    let kept = rest_stays _ _ _ _ c.load.ensures.made.1 in
    let size = ap (λ lanes. lanes.size) kept.0 in
    let capacity = kept.1 in
    record {
      all_slots = cc;
      all_streams = cc;
      all_items = cc;
      all_values = cc;
      all_marks = cc;
      allowed = hand.allowed;
      fitting = cc;
    }
