use Rattle.std.proofs.Common.{take}
use Rattle.std.specs.Prelude.{flat_map}
use Rattle.std.specs.Fmt.{HasWritten, IsPlainFormatter}
use Rattle.session.specs.Texts.{hop_text}
use Rattle.session.proofs.answer.HopListDisplay.fmt.Given as goal

-- the hops so far have been written
abbrev pub invariant-loop-link : goal.invariant-loop-link
invariant-loop-link g l = IsPlainFormatter l.fn.f → HasWritten g.W.Write.write_str_gives l.fn.f (flat_map hop_text (take l.link-index l.self.0.now)) l.f
