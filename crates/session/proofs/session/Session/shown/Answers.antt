use Rattle.std.proofs.Common.{refl, arith}
use Rattle.session.specs.Hands.{grid_of}
use Rattle.session.proofs.session.Session.shown.Goals as goal

pub returns : goal.returns
returns c = (grid_of c.in_ok-at_hand.at_hand.now, grind arith, refl, refl, refl, refl)
