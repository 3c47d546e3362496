use Rattle.std.proofs.Common.{arith, length-append}
use Rattle.codec.specs.Sequences.{numbers_bytes}
use Rattle.plan.proofs.Putting.{room}
use Rattle.plan.proofs.put.put_numbers.Goals as goal

pub put_number-requires : goal.put_number-requires
put_number-requires c =
    omega (arith, room _ _ _ _ _ c.loop-n.invariant 0 c.loop-n-test.true, length-append c.args.plan.now.items (numbers_bytes c.args.numbers.now), c.requires)
