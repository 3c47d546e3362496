use Rattle.std.proofs.Common.{◌∙◌, arith}
use Rattle.session.specs.Hands.{grid_of}
use Rattle.session.proofs.Lending.{complete, KeepsSizes, length_lent, drain_keeps, drain_goes}
use Rattle.session.proofs.at_hand.GridAtHand.drain.Goals as goal

pub unwrap-drained-requires : goal.unwrap-drained-requires
unwrap-drained-requires c =
    let hand = c.args.self.now in
    drain_goes (grid_of hand) _ c.drain.result (complete hand)
    (rw (c.as_mut_slice.ensures.value, c.as_mut_slice-2.ensures.value, c.as_mut_slice-3.ensures.value) at c.drain.ensures.drains)

pub invariant_of-self : goal.invariant_of-self
invariant_of-self c =
    let hand = c.args.self.now in
    let after = c.drain.new in
    let kept : KeepsSizes hand.grid.tables after.self.tables = drain_keeps _ _ c.drain.result c.drain.ensures.drains in
    record {
      all_slots = length_lent hand.slots after.slots (grind (arith, c.as_mut_slice.ensures.value)) ∙ cc;
      all_streams = length_lent hand.streams after.streams (grind (arith, c.as_mut_slice-2.ensures.value)) ∙ cc;
      all_items = length_lent hand.items after.items (grind (arith, c.as_mut_slice-3.ensures.value)) ∙ cc;
      all_values = cc;
      all_marks = cc;
      allowed = hand.allowed;
      fitting = cc;
    }
