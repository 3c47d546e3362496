use Rattle.std.proofs.Common.{map, arith, length-append}
use Rattle.routes.specs.Routes.{hop_on}
use Rattle.codec.specs.Sequences.{numbers_bytes}
use Rattle.codec.specs.Records.{hop_number}
use Rattle.plan.proofs.Putting.{room}
use Rattle.plan.proofs.put.put_hops.Goals as goal

pub put_number-requires : goal.put_number-requires
put_number-requires c =
    rw c.hop_number.ensures
    (omega (arith, room _ _ _ _ _ c.loop-hop.invariant (hop_on 0 0) c.loop-hop-test.true, length-append c.args.plan.now.items (numbers_bytes (map hop_number c.args.hops.now)), c.requires.room))
