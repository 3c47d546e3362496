use Rattle.std.proofs.Common.{arith}
use Rattle.session.proofs.OwnPlans.{allowed_head}
use Rattle.session.proofs.at_hand.GridAtHand.blank.Goals as goal

pub invariant_of-result-clause-allowed : goal.invariant_of-result-clause-allowed
invariant_of-result-clause-allowed c = allowed_head c.args.head c.requires (grind arith)
