use Rattle.std.proofs.Common.{arith}
use Rattle.session.specs.Hands.{grid_of}
use Rattle.session.proofs.session.Session.came_out.Goals as goal

pub returns : goal.returns
returns c = (grid_of c.in_ok-at_hand.at_hand.now, grind arith, cc, cc)
