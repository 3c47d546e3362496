use Rattle.std.specs.Fmt.{HasWritten, IsPlainFormatter}
use Rattle.session.specs.Texts.{tally_lines}
use Rattle.session.proofs.answer.TallyListDisplay.fmt.Given as goal

-- the lines so far have been written
abbrev pub invariant-loop-number : goal.invariant-loop-number
invariant-loop-number g l = IsPlainFormatter l.fn.f → HasWritten g.W.Write.write_str_gives l.fn.f (tally_lines l.self.0.now l.number-counter) l.f
