use Rattle.std.proofs.Common.{◌∙◌, arith}
use Rattle.session.proofs.Lending.{KeepsSizes, length_lent, sweep_keeps}
use Rattle.session.proofs.at_hand.GridAtHand.sweep.Goals as goal

pub invariant_of-self : goal.invariant_of-self
invariant_of-self c =
    let hand = c.args.self.now in
    let after = c.sweep.new in
    let kept : KeepsSizes hand.grid.tables after.self.tables = sweep_keeps _ _ c.sweep.result c.sweep.ensures.sweeps in
    record {
      all_slots = length_lent hand.slots after.slots (grind (arith, c.as_mut_slice.ensures.value)) ∙ cc;
      all_streams = length_lent hand.streams after.streams (grind (arith, c.as_mut_slice-2.ensures.value)) ∙ cc;
      all_items = length_lent hand.items after.items (grind (arith, c.as_mut_slice-3.ensures.value)) ∙ cc;
      all_values = cc;
      all_marks = cc;
      allowed = hand.allowed;
      fitting = cc;
    }
