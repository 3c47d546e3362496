use Rattle.std.proofs.Common.{◌<◌, get_or, arith, true}
use Rattle.std.proofs.lemmas.Fmt.{hex_byte}
use Rattle.std.proofs.lemmas.Grind.{common_steps}
use Rattle.session.proofs.answer.ByteListDisplay.fmt.Goals as goal

pub loop-byte-preserved : goal.loop-byte-preserved
loop-byte-preserved g c =
    let byte = get_or c.args.self.now.0.now c.loop-byte.byte-index 0 in
    let small : byte < 256 = omega arith in
    let writes = rw (c.laid_out.ensures, c.in_radix.ensures, hex_byte true byte small) at c.write.ensures.writes in
    grind (arith, common_steps, writes)
