use Rattle.std.proofs.Common.{codes, arith}
use Rattle.std.proofs.lemmas.Slice.Eq.{text_from_reads}
use Rattle.script.proofs.parts.beat.Goals as goal

pub returns-in-uneven : goal.returns-in-uneven
returns-in-uneven c = grind (arith, text_from_reads c.args.word.now (codes "uneven") (omega arith) (omega arith))
