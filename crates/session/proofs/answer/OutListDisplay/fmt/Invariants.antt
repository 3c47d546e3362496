use Rattle.std.proofs.Common.{map}
use Rattle.std.specs.Prelude.{flat_map}
use Rattle.std.specs.Fmt.{HasWritten, IsPlainFormatter}
use Rattle.session.specs.Texts.{out_line}
use Rattle.session.proofs.answer.OutListDisplay.fmt.Given as goal

-- the lines so far have been written
abbrev pub invariant-loop-stream : goal.invariant-loop-stream
invariant-loop-stream g l =
    IsPlainFormatter l.fn.f → HasWritten g.W.Write.write_str_gives l.fn.f (flat_map out_line (map (λ i. (i.0.now, i.1.now)) l.yielded)) l.f
