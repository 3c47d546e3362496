use Rattle.std.proofs.Common.{◌∙◌, arith}
use Rattle.grid.specs.Sweeps.{workspace}
use Rattle.session.proofs.Lending.{KeepsSizes, length_lent, rehearsal_keeps}
use Rattle.session.proofs.at_hand.GridAtHand.rehearse.Goals as goal

pub invariant_of-self : goal.invariant_of-self
invariant_of-self c =
    let hand = c.args.self.now in
    let after = c.rehearse.new in
    let kept : KeepsSizes hand.grid.tables after.grid.tables =
    rehearsal_keeps c.args.strips (workspace hand.grid c.as_mut_slice.result.now c.as_mut_slice-2.result.now c.as_mut_slice-3.result.now)
    (workspace after.grid after.slots after.streams after.items) c.rehearse.result c.rehearse.ensures.made in
    record {
      all_slots = length_lent hand.slots after.slots (grind (arith, c.as_mut_slice.ensures.value)) ∙ cc;
      all_streams = length_lent hand.streams after.streams (grind (arith, c.as_mut_slice-2.ensures.value)) ∙ cc;
      all_items = length_lent hand.items after.items (grind (arith, c.as_mut_slice-3.ensures.value)) ∙ cc;
      all_values = cc;
      all_marks = cc;
      allowed = hand.allowed;
      fitting = cc;
    }
